-- What lists are after a change of some of their values.
use Rattle.std.proofs.Common.{◌≡◌, Bool, true, false, not, ◌||◌, if◌then◌else◌, List, [], ◌∷◌, ◌++◌, map, refl, sym, ap, ◌∙◌, true≢false, Ordering}
use Rattle.std.specs.Cmp.{IsTotalOrder, first_so, second_so}
use Rattle.std.specs.List.{list_any}
use Rattle.std.proofs.lemmas.List.Sorted.{IsPermutation-refl, IsPermutation-trans, IsPermutation-to_front}
use Rattle.seq.specs.Edits.{change_first}
use Rattle.seq.specs.Ordered.{differ_by, ascends_by, key_before}
use Rattle.seq.specs.Sorting.{insert_by, sort_by}
use Rattle.seq.proofs.SortingLemmas.{IsPermutation-sort_by, sort_by-ascending}
use Rattle.std.proofs.lemmas.Bool.{not-true, or_parts}

-- ---- what values are made of

pub any-map : {X Y : Type 0} (f : X → Y) (test : Y → Bool) (xs : List X) → list_any test (map f xs) ≡ list_any (λ x. test (f x)) xs
any-map f test [] = refl
any-map f test (x ∷ xs) = ap (λ b. test (f x) || b) (any-map f test xs)

-- ---- lists in order

insert_by-map : {X : Type 0} (before : X → X → Bool) (f : X → X) → ((a b : X) → before (f a) (f b) ≡ before a b) → (x : X) (xs : List X) → insert_by before (f x) (map f xs) ≡ map f (insert_by before x xs)
insert_by-map before f same x [] = refl
insert_by-map before f same x (y ∷ ys) =
    let later = insert_by-map before f same x ys in
    rw (same x y) (elim (before x y) as (λ b. (if b then f x ∷ f y ∷ map f ys else f y ∷ insert_by before (f x) (map f ys)) ≡ map f (if b then x ∷ y ∷ ys else y ∷ insert_by before x ys))
    [ true ↦ refl | false ↦ ap (λ l. f y ∷ l) later ])

-- a change that the order does not see may come before or after a list is put in order
pub sort_by-map : {X : Type 0} (before : X → X → Bool) (f : X → X) → ((a b : X) → before (f a) (f b) ≡ before a b) → (xs : List X) → sort_by before (map f xs) ≡ map f (sort_by before xs)
sort_by-map before f same [] = refl
sort_by-map before f same (x ∷ xs) = rw (sort_by-map before f same xs) (insert_by-map before f same x (sort_by before xs))

module _ {X K : Type 0} {cmp : K → K → Ordering} (total : IsTotalOrder cmp) (key : X → K) where
  -- a list in order stays as it is
  pub sort_by-sorted : (xs : List X) → ascends_by (key_before key cmp) xs ≡ true → sort_by (key_before key cmp) xs ≡ xs
  sort_by-sorted xs up = sym (sort_by-ascending total key xs xs (IsPermutation-refl xs) up)

  -- a value behind the others goes to its place in their order
  pub sort_by-last : (xs : List X) (x : X) → ascends_by (key_before key cmp) (insert_by (key_before key cmp) x (sort_by (key_before key cmp) xs)) ≡ true
      → sort_by (key_before key cmp) (xs ++ x ∷ []) ≡ insert_by (key_before key cmp) x (sort_by (key_before key cmp) xs)
  sort_by-last xs x up =
      sym (sort_by-ascending total key (xs ++ x ∷ []) (insert_by (key_before key cmp) x (sort_by (key_before key cmp) xs))
      (IsPermutation-trans _ _ _ (IsPermutation-to_front xs x) (IsPermutation-sort_by (key_before key cmp) (x ∷ xs))) up)

-- ---- a change of the values that pass a test

not_so : (b : Bool) → (b ≡ true → ⊥) → b ≡ false
not_so true none = absurd (none refl)
not_so false none = refl

-- none passes
pub map-none : {X : Type 0} (test : X → Bool) (f : X → X) (xs : List X) → list_any test xs ≡ false → map (λ x. if test x then f x else x) xs ≡ xs
map-none test f [] h = refl
map-none test f (x ∷ xs) h =
    let apart = or_parts (test x) (list_any test xs) h in
    rw (apart.0, map-none test f xs apart.1) refl

-- where values that pass are alike and no two values are, at most the first that passes is changed
pub map-once : {X : Type 0} (test : X → Bool) (f : X → X) (alike : X → X → Bool) → ((a b : X) → test a ≡ true → test b ≡ true → alike a b ≡ true) → (xs : List X)
    → differ_by alike xs ≡ true → map (λ x. if test x then f x else x) xs ≡ change_first test f xs
map-once test f alike close [] differ = refl
map-once {X} test f alike close (x ∷ xs) differ =
    go (test x) refl (map-once test f alike close xs (second_so (not (list_any (alike x) xs)) (differ_by alike xs) differ))
  where
    unlike : (ys : List X) → test x ≡ true → list_any (alike x) ys ≡ false → list_any test ys ≡ false
    unlike [] is none = refl
    unlike (y ∷ ys) is none =
        let apart = or_parts (alike x y) (list_any (alike x) ys) none in
        let fails = not_so (test y) (λ also. absurd (true≢false (sym (close x y is also) ∙ apart.0))) in
        rw fails (unlike ys is apart.1)

    go : (b : Bool) → test x ≡ b → map (λ y. if test y then f y else y) xs ≡ change_first test f xs
        → (if b then f x else x) ∷ map (λ y. if test y then f y else y) xs ≡ (if b then f x ∷ xs else x ∷ change_first test f xs)
    go true is later = ap (λ l. f x ∷ l) (map-none test f xs (unlike xs is (not-true (list_any (alike x) xs) (first_so (not (list_any (alike x) xs)) (differ_by alike xs) differ))))
    go false other later = ap (λ l. x ∷ l) later
