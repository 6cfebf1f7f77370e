-- Values in the order of a key, and those of one key among them.
use Rattle.std.proofs.Common.{◌≡◌, ℕ, zero, suc, ◌+◌, ◌<◌, ◌≤◌, Bool, true, false, not, ◌&&◌, cond, List, [], ◌∷◌, length, get_or, take, drop, filter, refl, sym, ap, ◌∙◌, arith, add-zero, true≢false, Ordering, Less, Equal, Greater}
use Rattle.std.specs.Prelude.{⊤, Some, None}
use Rattle.std.specs.List.{position_from, position_or_len, AllByRecursion}
use Rattle.std.specs.List.Sorted.{IsSortedByKey, IsStableByKey, ties}
use Rattle.std.specs.Ordering.{is_lt, is_eq, on, ordering_reverse}
use Rattle.std.specs.Cmp.{IsTotalOrder}
use Rattle.std.proofs.lemmas.Cmp.{on_total, alike_right}
use Rattle.std.proofs.lemmas.List.Kept.{IsSortedBy-filter}
use Rattle.std.proofs.lemmas.List.Sorted.{ranks_by, sorted_far}
use Rattle.std.proofs.lemmas.Map.Keys.{sorted_head}
use Rattle.seq.specs.Ordered.{ascends_by, key_before}
use Rattle.seq.proofs.Ascending.{ascends_by-tail, sorted-from_ascends}

-- ---- the first place at which a test passes

pub place_some : {X : Type 0} (p : X → Bool) (n i : ℕ) (xs : List X) → position_from p n xs ≡ Some i → i ≡ n + position_or_len p xs
place_some p n i [] = λ h. absurd (cc)
place_some p n i (x ∷ xs) =
    elim (p x) as (λ b. cond b (Some n) (position_from p (n + 1) xs) ≡ Some i → i ≡ n + cond (not b) (1 + position_or_len p xs) 0) [
      | true ↦ λ h. (let same : n ≡ i = cc in sym same ∙ sym (add-zero n))
      | false ↦ λ h. (let rest = place_some p (n + 1) i xs h in omega (arith, rest))
    ]

pub place_none : {X : Type 0} (p : X → Bool) (n : ℕ) (xs : List X) → position_from p n xs ≡ None → position_or_len p xs ≡ length xs
place_none p n [] = λ h. refl
place_none p n (x ∷ xs) =
    elim (p x) as (λ b. cond b (Some n) (position_from p (n + 1) xs) ≡ None → cond (not b) (1 + position_or_len p xs) 0 ≡ length (x ∷ xs)) [
      | true ↦ λ h. absurd (cc)
      | false ↦ λ h. (let rest = place_none p (n + 1) xs h in omega (arith, rest))
    ]

pub place_bound : {X : Type 0} (p : X → Bool) (xs : List X) → position_or_len p xs ≤ length xs
place_bound p [] = omega arith
place_bound p (x ∷ xs) =
    elim (p x) as (λ b. cond (not b) (1 + position_or_len p xs) 0 ≤ length (x ∷ xs)) [ true ↦ omega arith | false ↦ omega (arith, place_bound p xs) ]

-- ---- a test that each value behind one that passes it passes too

abbrev Rises : {X : Type 0} → (X → Bool) → List X → Type 0
Rises p [] = ⊤
Rises p (x ∷ xs) = (p x ≡ true → AllByRecursion (λ y. p y ≡ true) xs) × Rises p xs

filter-every : {X : Type 0} (p : X → Bool) (xs : List X) → AllByRecursion (λ x. p x ≡ true) xs → filter p xs ≡ xs
filter-every p [] all = refl
filter-every p (x ∷ xs) all = ap (λ b. cond b (x ∷ filter p xs) (filter p xs)) all.0 ∙ ap (λ l. x ∷ l) (filter-every p xs all.1)

filter-none : {X : Type 0} (p : X → Bool) (xs : List X) → AllByRecursion (λ x. p x ≡ true) xs → filter (λ x. not (p x)) xs ≡ []
filter-none p [] all = refl
filter-none p (x ∷ xs) all = ap (λ b. cond (not b) (x ∷ filter (λ y. not (p y)) xs) (filter (λ y. not (p y)) xs)) all.0 ∙ filter-none p xs all.1

-- what passes is what stands from the first on that passes
drop-risen : {X : Type 0} (p : X → Bool) (xs : List X) → Rises p xs → drop (position_or_len p xs) xs ≡ filter p xs
drop-risen p [] up = refl
drop-risen p (x ∷ xs) up =
    (elim (p x) as (λ b. p x ≡ b → drop (cond (not b) (1 + position_or_len p xs) 0) (x ∷ xs) ≡ cond b (x ∷ filter p xs) (filter p xs)) [
      | true ↦ λ e. ap (λ l. x ∷ l) (sym (filter-every p xs (up.0 e)))
      | false ↦ λ e. (let next : 1 + position_or_len p xs ≡ suc (position_or_len p xs) = omega arith in ap (λ n. drop n (x ∷ xs)) next ∙ drop-risen p xs up.1)
    ]) refl

take-risen : {X : Type 0} (p : X → Bool) (xs : List X) → Rises p xs → take (position_or_len p xs) xs ≡ filter (λ x. not (p x)) xs
take-risen p [] up = refl
take-risen p (x ∷ xs) up =
    (elim (p x) as (λ b. p x ≡ b → take (cond (not b) (1 + position_or_len p xs) 0) (x ∷ xs) ≡ cond (not b) (x ∷ filter (λ y. not (p y)) xs) (filter (λ y. not (p y)) xs)) [
      | true ↦ λ e. sym (filter-none p xs (up.0 e))
      | false ↦ λ e. (let next : 1 + position_or_len p xs ≡ suc (position_or_len p xs) = omega arith in ap (λ n. take n (x ∷ xs)) next ∙ ap (λ l. x ∷ l) (take-risen p xs up.1))
    ]) refl

filter-both : {X : Type 0} (p q : X → Bool) (xs : List X) → filter q (filter p xs) ≡ filter (λ x. p x && q x) xs
filter-both p q [] = refl
filter-both p q (x ∷ xs) =
    elim (p x) as (λ b. filter q (cond b (x ∷ filter p xs) (filter p xs)) ≡ cond (b && q x) (x ∷ filter (λ y. p y && q y) xs) (filter (λ y. p y && q y) xs)) [
      | true ↦ ap (λ l. cond (q x) (x ∷ l) l) (filter-both p q xs)
      | false ↦ filter-both p q xs
    ]

-- ---- values in the order of a key

module _ {X K : Type 0} {cmp : K → K → Ordering} (total : IsTotalOrder cmp) (key : X → K) where
  abbrev pub is_from : K → X → Bool
  is_from wanted x = not (is_lt (cmp (key x) wanted))

  abbrev pub is_past : K → X → Bool
  is_past wanted x = is_lt (cmp wanted (key x))

  order : (a b : K) → is_lt (cmp a b) ≡ true → is_lt (cmp b a) ≡ false
  order = (ranks_by total (λ (k : K). k)).one_way

  chain : (a b c : K) → is_lt (cmp a b) ≡ false → is_lt (cmp b c) ≡ false → is_lt (cmp a c) ≡ false
  chain = (ranks_by total (λ (k : K). k)).chain

  later : (p : X → Bool) → ((x y : X) → is_lt (cmp (key y) (key x)) ≡ false → p x ≡ true → p y ≡ true) → (x : X) → p x ≡ true → (xs : List X) → ((k : ℕ) → k < length xs → is_lt (cmp (key (get_or xs k x)) (key x)) ≡ false)
      → AllByRecursion (λ y. p y ≡ true) xs
  later p up x e [] h = tt
  later p up x e (y ∷ ys) h = (up x y (h 0 (omega arith)) e, later p up x e ys (λ k lt. h (suc k) (omega arith)))

  rises_far : (p : X → Bool) → ((x y : X) → is_lt (cmp (key y) (key x)) ≡ false → p x ≡ true → p y ≡ true) → (xs : List X)
      → ((i j : ℕ) (d : X) → i ≤ j → j < length xs → is_lt (cmp (key (get_or xs j d)) (key (get_or xs i d))) ≡ false) → Rises p xs
  rises_far p up [] h = tt
  rises_far p up (x ∷ xs) h =
      ((λ e. later p up x e xs (λ k lt. h 0 (suc k) x (omega arith) (omega arith))), rises_far p up xs (λ i j d le lt. h (suc i) (suc j) d (omega arith) (omega arith)))

  rises : (p : X → Bool) → ((x y : X) → is_lt (cmp (key y) (key x)) ≡ false → p x ≡ true → p y ≡ true) → (xs : List X) → IsSortedByKey key cmp xs → Rises p xs
  rises p up xs sorted = rises_far p up xs (sorted_far (λ x y. is_lt (cmp (key x) (key y))) (ranks_by total key) xs sorted)

  not_false : (b : Bool) → not b ≡ true → b ≡ false
  not_false true h = sym h
  not_false false h = refl

  from_on : (wanted : K) (x y : X) → is_lt (cmp (key y) (key x)) ≡ false → is_from wanted x ≡ true → is_from wanted y ≡ true
  from_on wanted x y up e = ap not (chain (key y) (key x) wanted up (not_false _ e))

  past_on : (wanted : K) (x y : X) → is_lt (cmp (key y) (key x)) ≡ false → is_past wanted x ≡ true → is_past wanted y ≡ true
  past_on wanted x y up e =
      (elim (is_lt (cmp wanted (key y))) as (λ b. is_lt (cmp wanted (key y)) ≡ b → b ≡ true) [
        | true ↦ λ h. refl
        | false ↦ λ h. absurd (true≢false (sym e ∙ chain wanted (key y) (key x) h up))
      ]) refl

  -- what stays of values in order is in order
  pub filtered-sorted : (test : X → Bool) (xs : List X) → IsSortedByKey key cmp xs → IsSortedByKey key cmp (filter test xs)
  filtered-sorted test xs sorted = IsSortedBy-filter (λ x y. is_lt (cmp (key x) (key y))) (ranks_by total key) test xs sorted

  -- the values from the wanted key on stand behind all others
  pub drop-from : (wanted : K) (xs : List X) → IsSortedByKey key cmp xs → drop (position_or_len (is_from wanted) xs) xs ≡ filter (is_from wanted) xs
  drop-from wanted xs sorted = drop-risen (is_from wanted) xs (rises (is_from wanted) (from_on wanted) xs sorted)

  pub drop-past : (wanted : K) (xs : List X) → IsSortedByKey key cmp xs → drop (position_or_len (is_past wanted) xs) xs ≡ filter (is_past wanted) xs
  drop-past wanted xs sorted = drop-risen (is_past wanted) xs (rises (is_past wanted) (past_on wanted) xs sorted)

  pub take-past : (wanted : K) (xs : List X) → IsSortedByKey key cmp xs → take (position_or_len (is_past wanted) xs) xs ≡ filter (λ x. not (is_past wanted x)) xs
  take-past wanted xs sorted = take-risen (is_past wanted) xs (rises (is_past wanted) (past_on wanted) xs sorted)

  neither : (r s : Ordering) → s ≡ ordering_reverse r → not (is_lt r) && not (is_lt s) ≡ is_eq r
  neither Less s e = refl
  neither Equal s e = ap (λ o. not (is_lt o)) e
  neither Greater s e = ap (λ o. not (is_lt o)) e

  beyond : (r s : Ordering) → s ≡ ordering_reverse r → not (is_lt r) && is_lt s ≡ is_lt s
  beyond Less s e = sym (ap is_lt e)
  beyond Equal s e = refl
  beyond Greater s e = refl

  -- what is neither before nor after it has the wanted key
  pub only-wanted : (wanted : K) (xs : List X) → filter (λ x. not (is_past wanted x)) (filter (is_from wanted) xs) ≡ filter (λ x. is_eq (cmp (key x) wanted)) xs
  only-wanted wanted xs =
      filter-both (is_from wanted) (λ x. not (is_past wanted x)) xs
      ∙ ap (λ test. filter test xs) (λ i x. neither (cmp (key x) wanted) (cmp wanted (key x)) (total.antisymm wanted (key x)) i)

  -- what comes after is from there on
  pub past-from : (wanted : K) (xs : List X) → filter (is_past wanted) (filter (is_from wanted) xs) ≡ filter (is_past wanted) xs
  past-from wanted xs =
      filter-both (is_from wanted) (is_past wanted) xs
      ∙ ap (λ test. filter test xs) (λ i x. beyond (cmp (key x) wanted) (cmp wanted (key x)) (total.antisymm wanted (key x)) i)

  reached : (a b : K) → cmp a b ≡ Less → (k : K) → is_lt (cmp a k) && is_eq (cmp k b) ≡ is_eq (cmp k b)
  reached a b less k =
      (elim (cmp k b) as (λ r. cmp k b ≡ r → is_lt (cmp a k) && is_eq r ≡ is_eq r) [
        | Less ↦ λ e. no_either (is_lt (cmp a k))
        | Equal ↦ λ e. ap (λ r. is_lt r && true) (alike_right total k b a e ∙ less)
        | Greater ↦ λ e. no_either (is_lt (cmp a k))
      ]) refl
    where
      no_either : (b : Bool) → b && false ≡ false
      no_either true = refl
      no_either false = refl

  -- those of a key that comes later are all among those behind
  pub wanted-past : (a b : K) → cmp a b ≡ Less → (xs : List X) → filter (λ x. is_eq (cmp (key x) b)) (filter (is_past a) xs) ≡ filter (λ x. is_eq (cmp (key x) b)) xs
  wanted-past a b less xs =
      filter-both (is_past a) (λ x. is_eq (cmp (key x) b)) xs
      ∙ ap (λ test. filter test xs) (λ i x. reached a b less (key x) i)

  -- ---- a stable sort

  tied : (r s : Ordering) → s ≡ ordering_reverse r → not (is_lt s) && not (is_lt r) ≡ is_eq r
  tied Less s e = and_no (not (is_lt s))
    where
      and_no : (b : Bool) → b && false ≡ false
      and_no true = refl
      and_no false = refl
  tied Equal s e = ap (λ o. not (is_lt o) && true) e
  tied Greater s e = ap (λ o. not (is_lt o) && true) e

  -- the values of each key keep their order
  pub filtered-stable : (xs ys : List X) → IsStableByKey key cmp xs ys → (x : X) → filter (λ y. is_eq (cmp (key y) (key x))) ys ≡ filter (λ y. is_eq (cmp (key y) (key x))) xs
  filtered-stable xs ys stable x =
      let same : ties (λ a b. is_lt (cmp (key a) (key b))) x ≡ (λ y. is_eq (cmp (key y) (key x))) = λ i y. tied (cmp (key y) (key x)) (cmp (key x) (key y)) (total.antisymm (key x) (key y)) i in
      ap (λ test. filter test ys) (sym same) ∙ stable x ∙ ap (λ test. filter test xs) same

  -- ---- a list that ascends

  at_each : (P : X → Type 0) (xs : List X) (k : ℕ) (d : X) → k < length xs → AllByRecursion P xs → P (get_or xs k d)
  at_each P [] k d lt all = absurd (omega arith)
  at_each P (x ∷ xs) zero d lt all = all.0
  at_each P (x ∷ xs) (suc k) d lt all = at_each P xs k d (omega arith) all.1

  -- each value comes before all later ones
  pub ascends-far : (xs : List X) (i j : ℕ) (d : X) → ascends_by (key_before key cmp) xs ≡ true → i < j → j < length xs → cmp (key (get_or xs i d)) (key (get_or xs j d)) ≡ Less
  ascends-far [] i j d up lt in_it = absurd (omega arith)
  ascends-far (x ∷ xs) zero zero d up lt in_it = absurd (omega arith)
  ascends-far (x ∷ xs) zero (suc j) d up lt in_it =
      at_each (λ y. cmp (key x) (key y) ≡ Less) xs j d (omega arith) (sorted_head (on key cmp) x xs (sorted-from_ascends (on key cmp) (on_total key total) (x ∷ xs) up))
  ascends-far (x ∷ xs) (suc i) zero d up lt in_it = absurd (omega arith)
  ascends-far (x ∷ xs) (suc i) (suc j) d up lt in_it = ascends-far xs i j d (ascends_by-tail total key x xs up) (omega arith) (omega arith)
