-- A list in order is determined by its values.
use Rattle.std.proofs.Common.{◌≡◌, Bool, true, false, not, ◌&&◌, ◌||◌, cond, List, [], ◌∷◌, refl, ap, sym, ◌∙◌}
use Rattle.std.specs.Prelude.{IsPermutation}
use Rattle.std.specs.List.{list_any}
use Rattle.std.specs.Ordering.{is_lt, is_eq, ordering_reverse}
use Rattle.std.specs.declared.cmp.Ordering.{Ordering}
use Rattle.std.specs.declared.cmp.Ordering.TheVariants.{Less, Equal, Greater}
use Rattle.std.specs.Cmp.{IsTotalOrder, first_so, second_so}
use Rattle.std.specs.Cmp.Derive.{both_true}
use Rattle.std.proofs.lemmas.List.Sorted.{IsPermutation-refl, IsPermutation-sym, IsPermutation-cons, IsPermutation-trans, IsPermutation-middle}
use Rattle.seq.specs.Ordered.{differ_by, ascends_by, key_before, same_key}
use Rattle.seq.specs.Sorting.{insert_by, sort_by}
use Rattle.seq.proofs.Ascending.{same_list-from_IsPermutation, differ_by_key-IsPermutation, differs-from_ascends_by}

swap_first : {X : Type 0} (x y : X) (ys : List X) → IsPermutation (x ∷ y ∷ ys) (y ∷ x ∷ ys)
swap_first x y ys = IsPermutation-middle (x ∷ []) y ys

-- the value and the list are what the list with it holds
IsPermutation-insert_by : {X : Type 0} (before : X → X → Bool) (x : X) (ys : List X) → IsPermutation (x ∷ ys) (insert_by before x ys)
IsPermutation-insert_by before x [] = IsPermutation-refl (x ∷ [])
IsPermutation-insert_by before x (y ∷ ys) =
    elim (before x y) as (λ b. IsPermutation (x ∷ y ∷ ys) (cond b (x ∷ y ∷ ys) (y ∷ insert_by before x ys))) [
      | true ↦ IsPermutation-refl (x ∷ y ∷ ys)
      | false ↦ IsPermutation-trans _ _ _ (swap_first x y ys) (IsPermutation-cons y _ _ (IsPermutation-insert_by before x ys))
    ]

-- the list in order holds the same values
pub IsPermutation-sort_by : {X : Type 0} (before : X → X → Bool) (xs : List X) → IsPermutation xs (sort_by before xs)
IsPermutation-sort_by before [] = IsPermutation-refl []
IsPermutation-sort_by before (x ∷ xs) =
    IsPermutation-trans _ _ _ (IsPermutation-cons x _ _ (IsPermutation-sort_by before xs)) (IsPermutation-insert_by before x (sort_by before xs))

-- whether a value comes before the first of a list
abbrev first_after : {X : Type 0} → (X → X → Bool) → X → List X → Bool
first_after before y [] = true
first_after before y (z ∷ zs) = before y z

ascends-cons : {X : Type 0} (before : X → X → Bool) (y : X) (zs : List X) → ascends_by before (y ∷ zs) ≡ (first_after before y zs && ascends_by before zs)
ascends-cons before y [] = refl
ascends-cons before y (z ∷ zs) = refl

first_after-insert_by : {X : Type 0} (before : X → X → Bool) (y x : X) (zs : List X) → before y x ≡ true → first_after before y zs ≡ true → first_after before y (insert_by before x zs) ≡ true
first_after-insert_by before y x [] h k = h
first_after-insert_by before y x (z ∷ zs) h k =
    elim (before x z) as (λ b. first_after before y (cond b (x ∷ z ∷ zs) (z ∷ insert_by before x zs)) ≡ true)
    [ true ↦ h | false ↦ k ]

neither_so : (a b : Bool) → not (a || b) ≡ true → (a ≡ false) × (not b ≡ true)
neither_so true b h = absurd (cc)
neither_so false b h = (refl, h)

other_way : (r s : Ordering) → s ≡ ordering_reverse r → is_lt r ≡ false → is_eq r ≡ false → is_lt s ≡ true
other_way Less s e h k = absurd (cc)
other_way Equal s e h k = absurd (cc)
other_way Greater s e h k = ap is_lt e

module _ {X K : Type 0} {cmp : K → K → Ordering} (total : IsTotalOrder cmp) (key : X → K) where
  before_otherwise : (x y : X) → key_before key cmp x y ≡ false → same_key key cmp x y ≡ false → key_before key cmp y x ≡ true
  before_otherwise x y = other_way (cmp (key x) (key y)) (cmp (key y) (key x)) (total.antisymm (key y) (key x))

  ascends-insert_by : (x : X) (zs : List X) → ascends_by (key_before key cmp) zs ≡ true → not (list_any (same_key key cmp x) zs) ≡ true → ascends_by (key_before key cmp) (insert_by (key_before key cmp) x zs) ≡ true
  ascends-insert_by x [] up apart = refl
  ascends-insert_by x (y ∷ ys) up apart =
      let unlike = neither_so (same_key key cmp x y) (list_any (same_key key cmp x) ys) apart in
      let parts : (first_after (key_before key cmp) y ys && ascends_by (key_before key cmp) ys) ≡ true = sym (ascends-cons (key_before key cmp) y ys) ∙ up in
      let later = ascends-insert_by x ys (second_so (first_after (key_before key cmp) y ys) (ascends_by (key_before key cmp) ys) parts) unlike.1 in
      (elim (key_before key cmp x y) as (λ b. key_before key cmp x y ≡ b → ascends_by (key_before key cmp) (cond b (x ∷ y ∷ ys) (y ∷ insert_by (key_before key cmp) x ys)) ≡ true) [
        | true ↦ λ h. both_true h up
        | false ↦ λ h.
            ascends-cons (key_before key cmp) y (insert_by (key_before key cmp) x ys)
            ∙ both_true (first_after-insert_by (key_before key cmp) y x ys (before_otherwise x y h unlike.0) (first_so (first_after (key_before key cmp) y ys) (ascends_by (key_before key cmp) ys) parts)) later
      ]) refl

  apart_in_order : (x : X) (xs ys : List X) → IsPermutation xs ys → differ_by (same_key key cmp) (x ∷ xs) ≡ true → not (list_any (same_key key cmp x) ys) ≡ true
  apart_in_order x xs ys moved h =
      let differs : differ_by (same_key key cmp) (x ∷ ys) ≡ true = differ_by_key-IsPermutation total key (x ∷ xs) (x ∷ ys) (IsPermutation-cons x xs ys moved) ∙ h in
      first_so (not (list_any (same_key key cmp x) ys)) (differ_by (same_key key cmp) ys) differs

  -- where all keys differ, each value comes before the next
  pub ascends-sort_by : (xs : List X) → differ_by (same_key key cmp) xs ≡ true → ascends_by (key_before key cmp) (sort_by (key_before key cmp) xs) ≡ true
  ascends-sort_by [] h = refl
  ascends-sort_by (x ∷ xs) h =
      ascends-insert_by x (sort_by (key_before key cmp) xs)
      (ascends-sort_by xs (second_so (not (list_any (same_key key cmp x) xs)) (differ_by (same_key key cmp) xs) h))
      (apart_in_order x xs (sort_by (key_before key cmp) xs) (IsPermutation-sort_by (key_before key cmp) xs) h)

  -- a list in order that holds the values of another is the other in order
  pub sort_by-ascending : (xs ys : List X) → IsPermutation xs ys → ascends_by (key_before key cmp) ys ≡ true → ys ≡ sort_by (key_before key cmp) xs
  sort_by-ascending xs ys moved up =
      let differs : differ_by (same_key key cmp) xs ≡ true = differ_by_key-IsPermutation total key ys xs (IsPermutation-sym xs ys moved) ∙ differs-from_ascends_by total key ys up in
      same_list-from_IsPermutation total key ys (sort_by (key_before key cmp) xs) up (ascends-sort_by xs differs)
      (IsPermutation-trans _ _ _ (IsPermutation-sym xs ys moved) (IsPermutation-sort_by (key_before key cmp) xs))
