-- Where a search finds a value, or that there is none.
use Rattle.std.proofs.Common.{◌≡◌, ℕ, zero, suc, ◌+◌, ◌<◌, Bool, true, false, cond, List, [], ◌∷◌, length, get_or, refl, sym, ap, ◌∙◌, arith, inl, inr, Ordering, Less, Equal}
use Rattle.std.specs.Prelude.{Some, None, Ok, Err, find}
use Rattle.std.specs.List.{AllByRecursion, All}
use Rattle.std.specs.List.Sorted.{IsSortedBy, IsBinarySearchResult}
use Rattle.std.specs.Ordering.{is_lt, is_eq, ordering_reverse}
use Rattle.std.specs.Cmp.{IsTotalOrder}
use Rattle.std.proofs.lemmas.Bool.{cases_lt}
use Rattle.std.proofs.lemmas.Cmp.{alike_right, on_total}
use Rattle.std.proofs.lemmas.List.Elements.{recursion_from_All}
use Rattle.std.proofs.lemmas.List.Sorted.{searchable_from_sorted}
use Rattle.std.proofs.lemmas.Map.Keys.{Less-from_sorted}
use Rattle.seq.specs.Ordered.{ascends_by, key_before, has_key}
use Rattle.seq.proofs.Ascending.{sorted-from_ascends}

find-none_by_recursion : {X : Type 0} (test : X → Bool) (xs : List X) → AllByRecursion (λ x. test x ≡ false) xs → find test xs ≡ None
find-none_by_recursion test [] none = refl
find-none_by_recursion test (x ∷ xs) none = ap (λ b. cond b (Some x) (find test xs)) none.0 ∙ find-none_by_recursion test xs none.1

-- where no value passes, nothing is found
pub find-all_fail : {X : Type 0} (test : X → Bool) (xs : List X) → All (λ x. test x ≡ false) xs → find test xs ≡ None
find-all_fail test xs none = find-none_by_recursion test xs (recursion_from_All (λ x. test x ≡ false) xs none)

-- the first value that passes is found
pub find-first : {X : Type 0} (test : X → Bool) (xs : List X) (i : ℕ) (x : X) → i < length xs → x ≡ get_or xs i x → test x ≡ true → ((k : ℕ) → k < i → test (get_or xs k x) ≡ false) → find test xs ≡ Some x
find-first test [] i x within is passes earlier = absurd (omega arith)
find-first test (y ∷ ys) zero x within is passes earlier = ap (λ b. cond b (Some y) (find test ys)) (ap test (sym is) ∙ passes) ∙ ap Some (sym is)
find-first test (y ∷ ys) (suc i) x within is passes earlier =
    ap (λ b. cond b (Some y) (find test ys)) (earlier 0 (omega arith))
    ∙ find-first test ys i x (omega arith) is passes (λ k below. earlier (suc k) (omega arith))

module _ {X K : Type 0} {cmp : K → K → Ordering} (total : IsTotalOrder cmp) (key : X → K) where
  abbrev order : X → X → Ordering
  order a b = cmp (key a) (key b)

  -- in a list in order each value comes before those after it
  pub before-from_ascends : (xs : List X) → ascends_by (key_before key cmp) xs ≡ true → (i j : ℕ) (d : X) → i < j → j < length xs → order (get_or xs i d) (get_or xs j d) ≡ Less
  before-from_ascends xs up i j d below within = Less-from_sorted order xs i j d (sorted-from_ascends order (on_total key total) xs up) below within

  -- a list in order is sorted
  pub sorted_by_key-from_ascends : (xs : List X) → ascends_by (key_before key cmp) xs ≡ true → IsSortedBy (key_before key cmp) xs
  sorted_by_key-from_ascends xs up = λ k d low high.
      ap is_lt (total.antisymm _ _ ∙ ap ordering_reverse (before-from_ascends xs up k (k + 1) d (omega arith) high))

  -- in a list in order a binary search that ends at a place finds the value there
  pub find-at : (xs : List X) (wanted : K) (i : ℕ) (x : X) → ascends_by (key_before key cmp) xs ≡ true → i < length xs → x ≡ get_or xs i x → IsBinarySearchResult (λ y. cmp (key y) wanted) xs (Ok i) → find (has_key key cmp wanted) xs ≡ Some x
  find-at xs wanted i x up within is ended =
      let same : cmp (key x) wanted ≡ Equal = ap (λ y. cmp (key y) wanted) is ∙ ended x in
      find-first (has_key key cmp wanted) xs i x within is (ap is_eq same)
      (λ k below.
      let less : cmp (key (get_or xs k x)) (key (get_or xs i x)) ≡ Less = before-from_ascends xs up k i x below within in
      ap is_eq (sym (alike_right total (key x) wanted (key (get_or xs k x)) same) ∙ ap (λ y. cmp (key (get_or xs k x)) (key y)) is ∙ less))

  -- in a list in order a binary search that ends without a place says that no value has the key
  pub find-absent : (xs : List X) (wanted : K) (i : ℕ) → ascends_by (key_before key cmp) xs ≡ true → IsBinarySearchResult (λ x. cmp (key x) wanted) xs (Err i) → find (has_key key cmp wanted) xs ≡ None
  find-absent xs wanted i up ended =
      let parts = ended (searchable_from_sorted total key xs wanted (sorted_by_key-from_ascends xs up)) in
      find-all_fail (has_key key cmp wanted) xs
      (λ k d within. elim (cases_lt k i) [ inl lower ↦ ap is_eq (parts.0 k d (omega arith) lower) | inr upper ↦ ap is_eq (parts.1 k d upper within) ])
