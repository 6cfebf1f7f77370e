use Rattle.std.proofs.Common.{◌≡◌, ℕ, Bool, false, ap, subst, sym, ◌∙◌, rules}
use Rattle.std.specs.Ordering.{nat_cmp}
use Rattle.std.proofs.lemmas.Cmp.{nat_cmp_total}
use Rattle.std.proofs.lemmas.List.Sorted.{answers_always}
use Rattle.seq.specs.Ordered.{ascends_by, key_before}
use Rattle.seq.specs.Sorting.{sort_by}
use Rattle.seq.proofs.Ascending.{ascends-from_answer, ascends_by-sorted}
use Rattle.seq.proofs.Numbers.{is_lt-nat_cmp}
use Rattle.seq.proofs.SortingLemmas.{sort_by-ascending}
use Rattle.sql_rows.specs.declared.stored_records.Numbered.{Numbered}
use Rattle.sql_model.specs.OfficeRecords.{number_before}
use Rattle.sql_load.proofs.AssembledOrderLemmas.{never_ascends}
use Rattle.sql_load.proofs.ordered_lists.numbers_in_order.Goals as goal

abbrev number_of : {A : Type 0} → Numbered A → ℕ
number_of r = r.number

abbrev before : {A : Type 0} → Numbered A → Numbered A → Bool
before {A} = key_before (number_of {A = A}) nat_cmp

same_order : {A : Type 0} → before {A = A} ≡ number_before {A = A}
same_order {A} = λ i a b. is_lt-nat_cmp a.number b.number i

pub returns-then-not-is_sorted_by-clause-none : goal.returns-then-not-is_sorted_by-clause-none
returns-then-not-is_sorted_by-clause-none g c = λ _.
    let rows = c.args.rows.items in
    let sorted = c.sort_unstable_by_key.new.self.items in
    let ascends : c.is_sorted_by.result ≡ ascends_by before sorted =
    ascends-from_answer before c.deref.result.now c.is_sorted_by.result (c.is_sorted_by.ensures.cases before (answers_always _ _ _ (λ f a r next called. search rules))) ∙ ap (ascends_by before) c.deref.ensures.value in
    subst (λ b. ascends_by b (sort_by b rows) ≡ false) same_order
    (never_ascends nat_cmp_total number_of rows
    (sym (ascends_by-sorted nat_cmp_total number_of rows sorted c.sort_unstable_by_key.ensures.permutation (c.sort_unstable_by_key.ensures.sorted number_of (answers_always _ _ _ (λ f a r next called. search rules)))) ∙ sym ascends ∙ c.if-not-is_sorted_by.true))

pub returns-clause-some : goal.returns-clause-some
returns-clause-some g c =
    let rows = c.args.rows.items in
    let sorted = c.sort_unstable_by_key.new.self.items in
    let ascends : c.is_sorted_by.result ≡ ascends_by before sorted =
    ascends-from_answer before c.deref.result.now c.is_sorted_by.result (c.is_sorted_by.ensures.cases before (answers_always _ _ _ (λ f a r next called. search rules))) ∙ ap (ascends_by before) c.deref.ensures.value in
    sort_by-ascending nat_cmp_total number_of rows sorted c.sort_unstable_by_key.ensures.permutation (sym ascends ∙ c.if-not-is_sorted_by.false)
    ∙ ap (λ b. sort_by b rows) same_order
