use Rattle.std.proofs.Common.{◌≡◌, ℕ, ap, sym, ◌∙◌, rules}
use Rattle.std.proofs.lemmas.Cmp.{nat_cmp_total}
use Rattle.std.proofs.lemmas.List.Sorted.{answers_always}
use Rattle.seq.specs.Ordered.{ascends_by}
use Rattle.seq.proofs.Ascending.{ascends-from_answer, ascends_by-sorted}
use Rattle.seq.proofs.SortingLemmas.{sort_by-ascending}
use Rattle.desk_words.specs.SortedLists.{day_before}
use Rattle.sql_load.proofs.AssembledOrderLemmas.{never_ascends}
use Rattle.sql_load.proofs.ordered_lists.days_in_order.Goals as goal

pub returns-then-not-is_sorted_by-clause-none : goal.returns-then-not-is_sorted_by-clause-none
returns-then-not-is_sorted_by-clause-none c = λ _.
    let days = c.args.days.items in
    let sorted = c.sort_unstable_by_key.new.self.items in
    let ascends : c.is_sorted_by.result ≡ ascends_by day_before sorted =
    ascends-from_answer day_before c.deref.result.now c.is_sorted_by.result (c.is_sorted_by.ensures.cases day_before (answers_always _ _ _ (λ f a r next called. search rules))) ∙ ap (ascends_by day_before) c.deref.ensures.value in
    never_ascends nat_cmp_total (λ (d : ℕ). d) days
    (sym (ascends_by-sorted nat_cmp_total (λ (d : ℕ). d) days sorted c.sort_unstable_by_key.ensures.permutation (c.sort_unstable_by_key.ensures.sorted (λ (d : ℕ). d) (answers_always _ _ _ (λ f a r next called. search rules)))) ∙ sym ascends ∙ c.if-not-is_sorted_by.true)

pub returns-clause-some : goal.returns-clause-some
returns-clause-some c =
    let sorted = c.sort_unstable_by_key.new.self.items in
    let ascends : c.is_sorted_by.result ≡ ascends_by day_before sorted =
    ascends-from_answer day_before c.deref.result.now c.is_sorted_by.result (c.is_sorted_by.ensures.cases day_before (answers_always _ _ _ (λ f a r next called. search rules))) ∙ ap (ascends_by day_before) c.deref.ensures.value in
    sort_by-ascending nat_cmp_total (λ (d : ℕ). d) c.args.days.items sorted c.sort_unstable_by_key.ensures.permutation (sym ascends ∙ c.if-not-is_sorted_by.false)

pub returns-clause-ascending : goal.returns-clause-ascending
returns-clause-ascending c =
    let sorted = c.sort_unstable_by_key.new.self.items in
    let ascends : c.is_sorted_by.result ≡ ascends_by day_before sorted =
    ascends-from_answer day_before c.deref.result.now c.is_sorted_by.result (c.is_sorted_by.ensures.cases day_before (answers_always _ _ _ (λ f a r next called. search rules))) ∙ ap (ascends_by day_before) c.deref.ensures.value in
    sym ascends ∙ c.if-not-is_sorted_by.false
