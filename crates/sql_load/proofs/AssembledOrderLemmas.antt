-- Lists that are put in order.
use Rattle.std.proofs.Common.{◌≡◌, true, false, List, inl, inr, sym, ◌∙◌, true≢false, Ordering}
use Rattle.std.specs.Cmp.{IsTotalOrder}
use Rattle.std.proofs.lemmas.Bool.{cases_Bool}
use Rattle.seq.specs.Ordered.{ascends_by, differ_by, key_before, same_key}
use Rattle.seq.specs.Sorting.{sort_by}
use Rattle.seq.proofs.Ascending.{differ_by_key-IsPermutation, differs-from_ascends_by}
use Rattle.seq.proofs.SortingLemmas.{IsPermutation-sort_by}

module _ {X K : Type 0} {cmp : K → K → Ordering} (total : IsTotalOrder cmp) (key : X → K) where
  -- where the values do not differ, no order of them ascends
  pub never_ascends : (xs : List X) → differ_by (same_key key cmp) xs ≡ false → ascends_by (key_before key cmp) (sort_by (key_before key cmp) xs) ≡ false
  never_ascends xs alike =
      let sorted = sort_by (key_before key cmp) xs in
      elim (cases_Bool (ascends_by (key_before key cmp) sorted)) [
        | inl up ↦
            let differ : differ_by (same_key key cmp) xs ≡ true =
            sym (differ_by_key-IsPermutation total key xs sorted (IsPermutation-sort_by (key_before key cmp) xs)) ∙ differs-from_ascends_by total key sorted up in
            absurd (true≢false (sym differ ∙ alike))
        | inr falls ↦ falls
      ]
