use Rattle.std.proofs.Common.{◌≡◌, Bool, true, false, Some, ap, subst, sym, ◌∙◌}
use Rattle.std.specs.Ordering.{nat_cmp}
use Rattle.std.proofs.lemmas.Cmp.{nat_cmp_total}
use Rattle.seq.specs.Ordered.{ascends_by, key_before}
use Rattle.seq.specs.Sorting.{sort_by}
use Rattle.seq.proofs.Numbers.{is_lt-nat_cmp}
use Rattle.seq.proofs.SortingLemmas.{sort_by-ascending}
use Rattle.desk_words.specs.Office.{poll_before}
use Rattle.desk_words.specs.declared.records.Poll.{Poll}
use Rattle.sql_load.proofs.AssembledListLemmas.{wrong_for}
use Rattle.sql_load.proofs.AssembledOrderLemmas.{never_ascends}
use Rattle.sql_load.proofs.ordered_lists.poll_list.Goals as goal

abbrev before : Poll → Poll → Bool
before = key_before (λ (p : Poll). p.resolution) nat_cmp

same_order : before ≡ poll_before
same_order = λ i a b. is_lt-nat_cmp a.resolution b.resolution i

pub returns-then-not-ascend : goal.returns-then-not-ascend
returns-then-not-ascend c = λ x h.
    let polls = c.args.polls in
    let falls : ascends_by before c.into_order.new.values.items ≡ false = ap (ascends_by before) (sym c.deref.ensures.value) ∙ sym c.ascend.ensures ∙ c.if-not-ascend.true in
    let none : ascends_by before (sort_by before c.into_vec-polls.result.items) ≡ false =
    never_ascends nat_cmp_total (λ (p : Poll). p.resolution) c.into_vec-polls.result.items (sym c.into_order.ensures.ascending ∙ falls) in
    let here : ascends_by before (sort_by before polls) ≡ false = subst (λ l. ascends_by before (sort_by before l) ≡ false) c.into_vec-polls.ensures none in
    wrong_for (ascends_by poll_before) (sort_by poll_before polls) x h (subst (λ (b : Poll → Poll → Bool). ascends_by b (sort_by b polls) ≡ false) same_order here)

pub returns : goal.returns
returns c =
    let up : ascends_by before c.into_order.new.values.items ≡ true = ap (ascends_by before) (sym c.deref.ensures.value) ∙ sym c.ascend.ensures ∙ c.if-not-ascend.false in
    let sorted : c.into_order.new.values.items ≡ sort_by before c.into_vec-polls.result.items =
    sort_by-ascending nat_cmp_total (λ (p : Poll). p.resolution) c.into_vec-polls.result.items c.into_order.new.values.items c.into_order.ensures.permutation up in
    ap (λ l. Some l) (sym (c.from_vec.ensures ∙ sorted ∙ ap (sort_by before) c.into_vec-polls.ensures ∙ ap (λ (b : Poll → Poll → Bool). sort_by b c.args.polls) same_order))
