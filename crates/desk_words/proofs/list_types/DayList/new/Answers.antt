use Rattle.std.proofs.Common.{◌≡◌, ◌≤◌, length, nat_eq, ap, ◌∙◌, arith}
use Rattle.std.proofs.lemmas.Bool.{and_from, le-leb}
use Rattle.std.specs.Ordering.{nat_cmp, eq_by_cmp}
use Rattle.std.specs.Set.{distinct_count}
use Rattle.std.specs.FinMap.{nat_cmp-IsAntisymmetric}
use Rattle.seq.proofs.Numbers.{is_eq-nat_cmp}
use Rattle.desk_words.specs.SortedLists.{day_count}
use Rattle.desk_words.specs.declared.limits.TheConstants.{MOST_CLOSED_DAYS}
use Rattle.desk_words.proofs.WordDayLemmas.{day_list_of-is}
use Rattle.desk_words.proofs.list_types.DayList.new.Goals as goal

same_test : eq_by_cmp nat_cmp ≡ nat_eq
same_test = λ i a b. is_eq-nat_cmp a b i

pub returns-clause-value : goal.returns-clause-value
returns-clause-value c =
    let listed = c.in_order_once-days.result.items in
    let count = c.in_order_once-days.ensures.count ∙ ap (λ e. distinct_count e c.args.days.items) same_test in
    let short : length listed ≤ MOST_CLOSED_DAYS = omega arith in
    let few : day_count c.args.days.items ≤ MOST_CLOSED_DAYS = omega (arith, count) in
    day_list_of-is c.args.days.items listed (and_from _ _ (le-leb (length listed) MOST_CLOSED_DAYS short) c.in_order_once-days.ensures.ascending)
    (c.in_order_once-days.ensures.same_values nat_cmp-IsAntisymmetric) few

pub returns-clause-days : goal.returns-clause-days
returns-clause-days c = c.in_order_once-days.ensures.same_values nat_cmp-IsAntisymmetric

pub returns-clause-limit : goal.returns-clause-limit
returns-clause-limit c =
    let count = c.in_order_once-days.ensures.count ∙ ap (λ e. distinct_count e c.args.days.items) same_test in
    (λ never. absurd (cc), λ many. absurd (omega (arith, count)))
