-- A value that goes to its place in a list.
use Rattle.std.proofs.Common.{◌≡◌, ℕ, suc, ◌+◌, ◌≤◌, Bool, true, false, ◌&&◌, ◌||◌, cond, List, [], ◌∷◌, length, refl, ap, sym, ◌∙◌, arith, add-zero}
use Rattle.std.specs.Prelude.{Some, None}
use Rattle.std.specs.Cmp.{first_so, second_so}
use Rattle.std.specs.Cmp.Derive.{both_true}
use Rattle.std.specs.List.{insert, list_all, list_any, position_from}
use Rattle.seq.specs.Ordered.{ascends_by}
use Rattle.seq.specs.Sorting.{insert_by, place_by}

-- it stands at its place
pub insert-place_by : {X : Type 0} (before : X → X → Bool) (x : X) (xs : List X) → insert xs (place_by before x xs) x ≡ insert_by before x xs
insert-place_by before x [] = refl
insert-place_by before x (y ∷ ys) =
    elim (before x y) as (λ b. insert (y ∷ ys) (cond b 0 (suc (place_by before x ys))) x ≡ cond b (x ∷ y ∷ ys) (y ∷ insert_by before x ys))
    [ true ↦ refl | false ↦ ap (λ zs. y ∷ zs) (insert-place_by before x ys) ]

-- which is the first one that the value comes before
pub place_some : {X : Type 0} (before : X → X → Bool) (x : X) (n i : ℕ) (xs : List X) → position_from (before x) n xs ≡ Some i → i ≡ n + place_by before x xs
place_some before x n i [] = λ h. absurd (cc)
place_some before x n i (y ∷ ys) =
    elim (before x y) as (λ b. cond b (Some n) (position_from (before x) (n + 1) ys) ≡ Some i → i ≡ n + cond b 0 (suc (place_by before x ys))) [
      | true ↦ λ h. (let same : n ≡ i = cc in sym same ∙ sym (add-zero n))
      | false ↦ λ h. (let rest = place_some before x (n + 1) i ys h in omega (arith, rest))
    ]

-- and else the end of the list
pub place_none : {X : Type 0} (before : X → X → Bool) (x : X) (n : ℕ) (xs : List X) → position_from (before x) n xs ≡ None → place_by before x xs ≡ length xs
place_none before x n [] = λ h. refl
place_none before x n (y ∷ ys) =
    elim (before x y) as (λ b. cond b (Some n) (position_from (before x) (n + 1) ys) ≡ None → cond b 0 (suc (place_by before x ys)) ≡ length (y ∷ ys)) [
      | true ↦ λ h. absurd (cc)
      | false ↦ λ h. ap suc (place_none before x (n + 1) ys h)
    ]

-- no further than the end
pub place_bound : {X : Type 0} (before : X → X → Bool) (x : X) (xs : List X) → place_by before x xs ≤ length xs
place_bound before x [] = omega arith
place_bound before x (y ∷ ys) =
    elim (before x y) as (λ b. cond b 0 (suc (place_by before x ys)) ≤ length (y ∷ ys)) [ true ↦ omega arith | false ↦ omega (arith, place_bound before x ys) ]

-- every value passes where the new one does and the others do
pub all-insert : {X : Type 0} (test : X → Bool) (before : X → X → Bool) (x : X) (xs : List X) → test x ≡ true → list_all test xs ≡ true → list_all test (insert_by before x xs) ≡ true
all-insert test before x [] good h = both_true good refl
all-insert test before x (y ∷ ys) good h =
    elim (before x y) as (λ b. list_all test (cond b (x ∷ y ∷ ys) (y ∷ insert_by before x ys)) ≡ true) [
      | true ↦ both_true good h
      | false ↦ both_true (first_so (test y) (list_all test ys) h) (all-insert test before x ys good (second_so (test y) (list_all test ys) h))
    ]

-- a value that passes is still there
pub any-insert : {X : Type 0} (test : X → Bool) (before : X → X → Bool) (x : X) (xs : List X) → list_any test xs ≡ true → list_any test (insert_by before x xs) ≡ true
any-insert test before x [] h = absurd (cc)
any-insert test before x (y ∷ ys) h =
    elim (before x y) as (λ b. list_any test (cond b (x ∷ y ∷ ys) (y ∷ insert_by before x ys)) ≡ true) [
      | true ↦ elim (test x) as (λ t. (t || list_any test (y ∷ ys)) ≡ true) [ true ↦ refl | false ↦ h ]
      | false ↦ (elim (test y) as (λ t. (t || list_any test ys) ≡ true → (t || list_any test (insert_by before x ys)) ≡ true) [
        | true ↦ λ _. refl
        | false ↦ λ k. any-insert test before x ys k
      ]) h
    ]

-- a list in order stays so where the value comes before or behind each of the others
pub ascends-insert : {X : Type 0} (before : X → X → Bool) (x : X) (xs : List X) → list_all (λ y. before x y || before y x) xs ≡ true → ascends_by before xs ≡ true
    → ascends_by before (insert_by before x xs) ≡ true
ascends-insert before x [] apart h = refl
ascends-insert before x (y ∷ []) apart h =
    (elim (before x y) as (λ b. before x y ≡ b → (b || before y x) && true ≡ true → ascends_by before (cond b (x ∷ y ∷ []) (y ∷ x ∷ [])) ≡ true) [
      | true ↦ λ e _. both_true e refl
      | false ↦ λ e k. k
    ]) refl apart
ascends-insert before x (y ∷ z ∷ zs) apart h =
    let rest = second_so (before x y || before y x) (list_all (λ w. before x w || before w x) (z ∷ zs)) apart in
    let here = first_so (before x y || before y x) (list_all (λ w. before x w || before w x) (z ∷ zs)) apart in
    let ordered = second_so (before y z) (ascends_by before (z ∷ zs)) h in
    let step = first_so (before y z) (ascends_by before (z ∷ zs)) h in
    let below = ascends-insert before x (z ∷ zs) rest ordered in
    (elim (before x y) as (λ b. before x y ≡ b → (b || before y x) ≡ true → ascends_by before (cond b (x ∷ y ∷ z ∷ zs) (y ∷ insert_by before x (z ∷ zs))) ≡ true) [
      | true ↦ λ e _. both_true e h
      | false ↦ λ e behind. (elim (before x z) as (λ c. ascends_by before (cond c (x ∷ z ∷ zs) (z ∷ insert_by before x zs)) ≡ true → ascends_by before (y ∷ cond c (x ∷ z ∷ zs) (z ∷ insert_by before x zs)) ≡ true) [
        | true ↦ λ k. both_true behind k
        | false ↦ λ k. both_true step k
      ]) below
    ]) refl here
