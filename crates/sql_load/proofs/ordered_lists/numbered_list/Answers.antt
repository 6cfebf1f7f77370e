use Rattle.std.proofs.Common.{◌≡◌, false, length, ap, subst, sym, ◌∙◌, arith}
use Rattle.std.specs.Prelude.{nat_le}
use Rattle.std.proofs.lemmas.Bool.Decides.{nat_tests}
use Rattle.seq.specs.Ordered.{ascends_by}
use Rattle.seq.specs.Sorting.{sort_by}
use Rattle.sql_model.specs.OfficeRecords.{number_before}
use Rattle.sql_load.specs.OwnLists.{at_most, number_from}
use Rattle.sql_load.proofs.AssembledListLemmas.{list_made, numbers_refused, too_many, wrong_numbers}
use Rattle.sql_load.proofs.ordered_lists.numbered_list.Goals as goal

pub returns-in_default : goal.returns-in_default
returns-in_default g c =
    numbers_refused c.args.from c.args.rows (at_most c.args.most) (subst (λ l. ascends_by number_before (sort_by number_before l) ≡ false) c.into_vec.ensures (c.numbers_in_order.ensures.none c.in_default.is))

pub returns-then-len-most : goal.returns-then-len-most
returns-then-len-most g c =
    let many : nat_le (length c.in-Some.rows.items) c.args.most ≡ false = grind (arith, nat_tests) in
    too_many c.args.from c.args.rows c.in-Some.rows.items (c.in-Some.ensures.some ∙ ap (sort_by number_before) c.into_vec.ensures) c.args.most many

pub returns-then-not-are_numbered : goal.returns-then-not-are_numbered
returns-then-not-are_numbered g c =
    wrong_numbers c.args.from c.args.rows c.in-Some.rows.items (c.in-Some.ensures.some ∙ ap (sort_by number_before) c.into_vec.ensures) (at_most c.args.most)
    (ap (number_from c.args.from) (sym c.deref.ensures.value) ∙ sym c.are_numbered.ensures ∙ c.if-not-are_numbered.true)

pub returns : goal.returns
returns g c =
    list_made c.args.from c.args.rows c.in-Some.rows.items (c.in-Some.ensures.some ∙ ap (sort_by number_before) c.into_vec.ensures) c.from_vec.result
    (ap (number_from c.args.from) (sym c.deref.ensures.value) ∙ sym c.are_numbered.ensures ∙ c.if-not-are_numbered.false)
    (c.from_vec.ensures ∙ c.in_ok-items.ensures)
