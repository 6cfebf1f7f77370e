-- Lists in the order of a key, and lists whose keys differ.
use Rattle.std.proofs.Common.{◌≡◌, ℕ, zero, suc, ◌+◌, ◌-◌, ◌<◌, Bool, true, false, not, ◌&&◌, ◌||◌, cond, List, [], ◌∷◌, length, get_or, filter, take, refl, sym, ap, ◌∙◌, subst, arith, add-one, Ordering, Less, Equal, Greater, true≢false, IsPermutation, ◌⊎◌, inl, inr}
use Rattle.std.specs.Prelude.{Contains}
use Rattle.std.specs.List.{list_any, AllByRecursion, IsDistinct, AllAdjacentBelow, IsAllAdjacentAnswer}
use Rattle.std.specs.List.Sorted.{IsStrictlySortedBy, IsSortedBy, IsSortedByKey}
use Rattle.std.specs.Ordering.{is_lt, is_eq, eq_by_cmp, on, ordering_reverse}
use Rattle.std.specs.Cmp.{IsTotalOrder, first_so, second_so, both_ways, eq_by_cmp_equiv}
use Rattle.std.proofs.lemmas.Cmp.{tied_itself, on_total}
use Rattle.std.proofs.lemmas.List.Elements.{All-from_recursion, All-contains}
use Rattle.std.proofs.lemmas.List.Kept.{IsStrictlySortedBy-filter}
use Rattle.std.proofs.lemmas.List.Sorted.{Contains-permutation, IsPermutation-sym}
use Rattle.std.proofs.lemmas.Map.Keys.{IsDistinct-cons, IsDistinct-head, IsDistinct-tail, IsDistinct-IsPermutation, IsDistinct-from_sorted, sorted_head}
use Rattle.std.proofs.lemmas.Map.Made.{Contains-tail}
use Rattle.seq.proofs.Booleans.{less_is}
use Rattle.std.proofs.lemmas.Bool.{and_from, and_right, not-true, or_parts}
use Rattle.seq.specs.Edits.{change_first}
use Rattle.seq.specs.Ordered.{ascends_by, differ_by, key_before, same_key}

-- ---- tests of each value

all_weaker : {X : Type 0} (P Q : X → Type 0) → ((x : X) → P x → Q x) → (xs : List X) → AllByRecursion P xs → AllByRecursion Q xs
all_weaker P Q more [] all = tt
all_weaker P Q more (x ∷ xs) all = (more x all.0, all_weaker P Q more xs all.1)

none_from_any : {X : Type 0} (test : X → Bool) (xs : List X) → list_any test xs ≡ false → AllByRecursion (λ x. test x ≡ false) xs
none_from_any test [] none = tt
none_from_any test (x ∷ xs) none = let both = or_parts (test x) (list_any test xs) none in (both.0, none_from_any test xs both.1)

any_from_none : {X : Type 0} (test : X → Bool) (xs : List X) → AllByRecursion (λ x. test x ≡ false) xs → list_any test xs ≡ false
any_from_none test [] none = refl
any_from_none test (x ∷ xs) none = ap (λ b. b || list_any test xs) none.0 ∙ any_from_none test xs none.1

-- ---- lists whose values differ

pub IsDistinct-from_differ : {X : Type 0} (alike : X → X → Bool) (xs : List X) → differ_by alike xs ≡ true → IsDistinct alike xs
unfolding IsDistinct
IsDistinct-from_differ alike [] differ = tt
IsDistinct-from_differ alike (x ∷ xs) differ =
    IsDistinct-cons alike x xs
    (none_from_any (alike x) xs (not-true _ (first_so (not (list_any (alike x) xs)) (differ_by alike xs) differ)))
    (IsDistinct-from_differ alike xs (second_so (not (list_any (alike x) xs)) (differ_by alike xs) differ))

pub differ-from_IsDistinct : {X : Type 0} (alike : X → X → Bool) (xs : List X) → IsDistinct alike xs → differ_by alike xs ≡ true
differ-from_IsDistinct alike [] apart = refl
differ-from_IsDistinct alike (x ∷ xs) apart =
    and_from _ _
    (ap not (any_from_none (alike x) xs (IsDistinct-head alike x xs apart)))
    (differ-from_IsDistinct alike xs (IsDistinct-tail alike x xs apart))

-- the order in which values stand does not matter to whether they differ
pub differ_by-IsPermutation : {X : Type 0} (alike : X → X → Bool) → ((a b : X) → alike a b ≡ alike b a) → (xs ys : List X) → IsPermutation xs ys → differ_by alike ys ≡ differ_by alike xs
differ_by-IsPermutation alike flips xs ys moved =
    both_ways _ _
    (λ differ. differ-from_IsDistinct alike xs (IsDistinct-IsPermutation alike flips ys xs (IsPermutation-sym xs ys moved) (IsDistinct-from_differ alike ys differ)))
    (λ differ. differ-from_IsDistinct alike ys (IsDistinct-IsPermutation alike flips xs ys moved (IsDistinct-from_differ alike xs differ)))

-- ---- lists in order

pub ascends-from_sorted : {X : Type 0} (order : X → X → Ordering) (xs : List X) → IsStrictlySortedBy order xs → ascends_by (λ a b. is_lt (order a b)) xs ≡ true
unfolding IsStrictlySortedBy
ascends-from_sorted order [] up = refl
ascends-from_sorted order (x ∷ []) up = refl
ascends-from_sorted order (x ∷ y ∷ rest) up = and_from _ _ (ap is_lt up.0.0) (ascends-from_sorted order (y ∷ rest) up.1)

pub sorted-from_ascends : {X : Type 0} (order : X → X → Ordering) → IsTotalOrder order → (xs : List X) → ascends_by (λ a b. is_lt (order a b)) xs ≡ true → IsStrictlySortedBy order xs
unfolding IsStrictlySortedBy
sorted-from_ascends order total [] up = tt
sorted-from_ascends order total (x ∷ []) up = (tt, tt)
sorted-from_ascends order total (x ∷ y ∷ rest) up =
    let first : order x y ≡ Less = less_is _ (first_so (is_lt (order x y)) (ascends_by (λ a b. is_lt (order a b)) (y ∷ rest)) up) in
    let later = sorted-from_ascends order total (y ∷ rest) (second_so (is_lt (order x y)) (ascends_by (λ a b. is_lt (order a b)) (y ∷ rest)) up) in
    ((first, all_weaker (λ z. order y z ≡ Less) (λ z. order x z ≡ Less) (λ z. total.trans x y z first) rest later.0), later)

differs-from_ascends : {X : Type 0} (order : X → X → Ordering) → IsTotalOrder order → (xs : List X) → ascends_by (λ a b. is_lt (order a b)) xs ≡ true → differ_by (eq_by_cmp order) xs ≡ true
differs-from_ascends order total xs up = differ-from_IsDistinct (eq_by_cmp order) xs (IsDistinct-from_sorted order xs (sorted-from_ascends order total xs up))

less-from_apart : (a b : Ordering) → a ≡ ordering_reverse b → is_eq a ≡ false → is_lt b ≡ false → is_lt a ≡ true
less-from_apart a Less turned apart up = absurd (true≢false up)
less-from_apart a Equal turned apart up = absurd (true≢false (sym (ap is_eq turned) ∙ apart))
less-from_apart a Greater turned apart up = ap is_lt turned

IsSortedBy-tail : {X : Type 0} (less : X → X → Bool) (x : X) (xs : List X) → IsSortedBy less (x ∷ xs) → IsSortedBy less xs
IsSortedBy-tail less x xs sorted = λ k d low high. rw add-one (rw add-one at (sorted (suc k) d (omega arith) (omega arith)))

ascends-from_differ : {X : Type 0} (order : X → X → Ordering) → IsTotalOrder order → (xs : List X) → IsSortedBy (λ a b. is_lt (order a b)) xs → differ_by (eq_by_cmp order) xs ≡ true → ascends_by (λ a b. is_lt (order a b)) xs ≡ true
ascends-from_differ order total [] sorted differ = refl
ascends-from_differ order total (x ∷ []) sorted differ = refl
ascends-from_differ order total (x ∷ y ∷ rest) sorted differ =
    let alone = not-true _ (first_so (not (list_any (eq_by_cmp order x) (y ∷ rest))) (differ_by (eq_by_cmp order) (y ∷ rest)) differ) in
    let apart = or_parts (eq_by_cmp order x y) (list_any (eq_by_cmp order x) rest) alone in
    let later = second_so (not (list_any (eq_by_cmp order x) (y ∷ rest))) (differ_by (eq_by_cmp order) (y ∷ rest)) differ in
    and_from _ _
    (less-from_apart (order x y) (order y x) (total.antisymm x y) apart.0 (sorted 0 x (omega arith) (omega arith)))
    (ascends-from_differ order total (y ∷ rest) (IsSortedBy-tail (λ a b. is_lt (order a b)) x (y ∷ rest) sorted) later)

-- ---- what an answer about neighbours says of the whole list

IsAdjacent-tail : {X : Type 0} (before : X → X → Bool) (x : X) (xs : List X) → AllAdjacentBelow (λ a b. true ≡ before a b) (x ∷ xs) (length (x ∷ xs)) → AllAdjacentBelow (λ a b. true ≡ before a b) xs (length xs)
IsAdjacent-tail before x xs each = λ k d high. rw add-one (rw add-one at (each (suc k) d (omega arith)))

ascends-from_neighbours : {X : Type 0} (before : X → X → Bool) (xs : List X) → AllAdjacentBelow (λ a b. true ≡ before a b) xs (length xs) → ascends_by before xs ≡ true
ascends-from_neighbours before [] each = refl
ascends-from_neighbours before (x ∷ []) each = refl
ascends-from_neighbours before (x ∷ y ∷ rest) each =
    and_from _ _ (sym (each 0 x (omega arith))) (ascends-from_neighbours before (y ∷ rest) (IsAdjacent-tail before x (y ∷ rest) each))

falls-from_neighbours : {X : Type 0} (before : X → X → Bool) (xs : List X) (k : ℕ) → k + 1 < length xs → ((d : X) → false ≡ before (get_or xs k d) (get_or xs (k + 1) d)) → ascends_by before xs ≡ false
falls-from_neighbours before [] k within fall = absurd (omega arith)
falls-from_neighbours before (x ∷ []) k within fall = absurd (omega arith)
falls-from_neighbours before (x ∷ y ∷ rest) zero within fall = ap (λ b. b && ascends_by before (y ∷ rest)) (sym (fall x))
falls-from_neighbours before (x ∷ y ∷ rest) (suc k) within fall =
    and_right (before x y) _ (falls-from_neighbours before (y ∷ rest) k (omega arith) (λ d. rw add-one (rw add-one at (fall d))))

-- a test of each value and the next, up to the first that fails, tells whether the list ascends
pub ascends-from_answer : {X : Type 0} (before : X → X → Bool) (xs : List X) (answer : Bool) → IsAllAdjacentAnswer (λ a b t. t ≡ before a b) xs answer → answer ≡ ascends_by before xs
ascends-from_answer before xs true each = sym (ascends-from_neighbours before xs each)
ascends-from_answer before xs false fall = sym (falls-from_neighbours before xs fall.0 fall.1 fall.2)

-- ---- a change that the order does not see

change_first-head : {X : Type 0} (before : X → X → Bool) (test : X → Bool) (change : X → X) → ((a b : X) → before a (change b) ≡ before a b) → (x y : X) (ys : List X)
    → ascends_by before (x ∷ change_first test change (y ∷ ys)) ≡ (before x y && ascends_by before (change_first test change (y ∷ ys)))
change_first-head before test change right x y ys =
    elim (test y) as (λ b. ascends_by before (x ∷ cond b (change y ∷ ys) (y ∷ change_first test change ys)) ≡ (before x y && ascends_by before (cond b (change y ∷ ys) (y ∷ change_first test change ys))))
    [ true ↦ ap (λ b. b && ascends_by before (change y ∷ ys)) (right x y) | false ↦ refl ]

change_head : {X : Type 0} (before : X → X → Bool) (change : X → X) → ((a b : X) → before (change a) b ≡ before a b) → (x : X) (xs : List X) → ascends_by before (change x ∷ xs) ≡ ascends_by before (x ∷ xs)
change_head before change left x [] = refl
change_head before change left x (y ∷ ys) = ap (λ b. b && ascends_by before (y ∷ ys)) (left x y)

-- whether a list ascends stays so after a change of one value that the comparison does not see, as one that keeps its key
pub ascends_by-change_first : {X : Type 0} (before : X → X → Bool) (test : X → Bool) (change : X → X) → ((a b : X) → before (change a) b ≡ before a b) → ((a b : X) → before a (change b) ≡ before a b) → (xs : List X)
    → ascends_by before (change_first test change xs) ≡ ascends_by before xs
ascends_by-change_first before test change left right [] = refl
ascends_by-change_first before test change left right (x ∷ []) = elim (test x) as (λ b. ascends_by before (cond b (change x ∷ []) (x ∷ [])) ≡ true) [ true ↦ refl | false ↦ refl ]
ascends_by-change_first before test change left right (x ∷ y ∷ rest) =
    elim (test x) as (λ b. ascends_by before (cond b (change x ∷ y ∷ rest) (x ∷ change_first test change (y ∷ rest))) ≡ ascends_by before (x ∷ y ∷ rest)) [
      | true ↦ change_head before change left x (y ∷ rest)
      | false ↦ change_first-head before test change right x y rest ∙ ap (λ b. before x y && b) (ascends_by-change_first before test change left right (y ∷ rest))
    ]

-- ---- by a key

module _ {X K : Type 0} {cmp : K → K → Ordering} (total : IsTotalOrder cmp) (key : X → K) where
  -- in a list in order all keys differ
  pub differs-from_ascends_by : (xs : List X) → ascends_by (key_before key cmp) xs ≡ true → differ_by (same_key key cmp) xs ≡ true
  differs-from_ascends_by = differs-from_ascends (on key cmp) (on_total key total)

  -- whether all keys differ does not depend on the order of the list
  pub differ_by_key-IsPermutation : (xs ys : List X) → IsPermutation xs ys → differ_by (same_key key cmp) ys ≡ differ_by (same_key key cmp) xs
  differ_by_key-IsPermutation = differ_by-IsPermutation (same_key key cmp) (eq_by_cmp_equiv (on_total key total)).symm

  -- to sort and then to look at neighbours tells whether all keys differ
  pub ascends_by-sorted : (xs ys : List X) → IsPermutation xs ys → IsSortedByKey key cmp ys → ascends_by (key_before key cmp) ys ≡ differ_by (same_key key cmp) xs
  ascends_by-sorted xs ys moved sorted =
      both_ways _ _ (differs-from_ascends_by ys) (ascends-from_differ (on key cmp) (on_total key total) ys sorted)
      ∙ differ_by_key-IsPermutation xs ys moved

  -- what stays of a list in order is in order
  pub ascends_by-filter : (test : X → Bool) (xs : List X) → ascends_by (key_before key cmp) xs ≡ true → ascends_by (key_before key cmp) (filter test xs) ≡ true
  ascends_by-filter test xs up =
      ascends-from_sorted (on key cmp) (filter test xs)
      (IsStrictlySortedBy-filter (on key cmp) test xs (sorted-from_ascends (on key cmp) (on_total key total) xs up))

  ascends-head : (x : X) (xs : List X) → ascends_by (key_before key cmp) (x ∷ xs) ≡ true → AllByRecursion (λ y. cmp (key x) (key y) ≡ Less) xs
  ascends-head x xs up = sorted_head (on key cmp) x xs (sorted-from_ascends (on key cmp) (on_total key total) (x ∷ xs) up)

  pub ascends_by-tail : (x : X) (xs : List X) → ascends_by (key_before key cmp) (x ∷ xs) ≡ true → ascends_by (key_before key cmp) xs ≡ true
  ascends_by-tail x [] up = refl
  ascends_by-tail x (y ∷ ys) up = second_so (key_before key cmp x y) (ascends_by (key_before key cmp) (y ∷ ys)) up

  pub ascends_by-take : (n : ℕ) (xs : List X) → ascends_by (key_before key cmp) xs ≡ true → ascends_by (key_before key cmp) (take n xs) ≡ true
  ascends_by-take zero xs up = refl
  ascends_by-take (suc n) [] up = refl
  ascends_by-take (suc zero) (x ∷ xs) up = refl
  ascends_by-take (suc (suc n)) (x ∷ []) up = refl
  ascends_by-take (suc (suc n)) (x ∷ y ∷ rest) up =
      and_from _ _ (first_so (key_before key cmp x y) (ascends_by (key_before key cmp) (y ∷ rest)) up)
      (ascends_by-take (suc n) (y ∷ rest) (ascends_by-tail x (y ∷ rest) up))

  -- ---- two lists in order that hold the same values

  less_once : (x y : X) → cmp (key x) (key y) ≡ Less → cmp (key y) (key x) ≡ Less → ⊥
  less_once x y there back =
      let itself : Less ≡ Equal = sym (total.trans (key x) (key y) (key x) there back) ∙ tied_itself total (key x) in
      cc itself

  -- each value of a list in order is its first, or comes after that
  first_or_after : (x y : X) (ys : List X) → ascends_by (key_before key cmp) (y ∷ ys) ≡ true → Contains (y ∷ ys) x → (y ≡ x) ⊎ (cmp (key y) (key x) ≡ Less)
  first_or_after x y ys up has =
      let P : X → Type 0 = λ z. (y ≡ z) ⊎ (cmp (key y) (key z) ≡ Less) in
      All-contains P (y ∷ ys) x
      (All-from_recursion P (y ∷ ys) (inl refl, all_weaker (λ z. cmp (key y) (key z) ≡ Less) P (λ z less. inr less) ys (ascends-head y ys up)))
      has

  same_first : (x : X) (xs : List X) (y : X) (ys : List X) → ascends_by (key_before key cmp) (x ∷ xs) ≡ true → ascends_by (key_before key cmp) (y ∷ ys) ≡ true
      → Contains (y ∷ ys) x → Contains (x ∷ xs) y → x ≡ y
  same_first x xs y ys up up' there back =
      elim (first_or_after x y ys up' there) [
        | inl same ↦ sym same
        | inr less ↦ elim (first_or_after y x xs up back) [ inl same ↦ same | inr more ↦ absurd (less_once y x less more) ]
      ]

  Contains-first : (x : X) (xs : List X) → Contains (x ∷ xs) x
  Contains-first x xs = (0, omega arith, refl)

  no_values : (x : X) → Contains [] x → ⊥
  no_values x (k, within, is) = omega arith

  Contains-later : (x : X) (xs : List X) (z : X) → Contains xs z → Contains (x ∷ xs) z
  Contains-later x xs z (k, within, is) = (suc k, omega arith, is)

  -- the first value does not come again
  first_is_once : (x : X) (xs : List X) (z : X) → ascends_by (key_before key cmp) (x ∷ xs) ≡ true → Contains xs z → x ≡ z → ⊥
  first_is_once x xs z up has same =
      let less : cmp (key x) (key z) ≡ Less = All-contains (λ w. cmp (key x) (key w) ≡ Less) xs z (All-from_recursion (λ w. cmp (key x) (key w) ≡ Less) xs (ascends-head x xs up)) has in
      let itself : cmp (key x) (key x) ≡ Less = ap (λ w. cmp (key x) (key w)) same ∙ less in
      less_once x x itself itself

  rest_holds : (x : X) (xs ys : List X) → ascends_by (key_before key cmp) (x ∷ xs) ≡ true → ((z : X) → Contains (x ∷ xs) z → Contains (x ∷ ys) z) → (z : X) → Contains xs z → Contains ys z
  rest_holds x xs ys up more z has = Contains-tail x ys z (first_is_once x xs z up has) (more z (Contains-later x xs z has))

  -- two lists in order that hold the same values are the same list
  pub same_list-from_Contains : (xs ys : List X) → ascends_by (key_before key cmp) xs ≡ true → ascends_by (key_before key cmp) ys ≡ true
      → ((z : X) → Contains xs z → Contains ys z) → ((z : X) → Contains ys z → Contains xs z) → xs ≡ ys
  same_list-from_Contains [] [] up up' there back = refl
  same_list-from_Contains [] (y ∷ ys) up up' there back = absurd (no_values y (back y (Contains-first y ys)))
  same_list-from_Contains (x ∷ xs) [] up up' there back = absurd (no_values x (there x (Contains-first x xs)))
  same_list-from_Contains (x ∷ xs) (y ∷ ys) up up' there back =
      let first : x ≡ y = same_first x xs y ys up up' (there x (Contains-first x xs)) (back y (Contains-first y ys)) in
      let there' : (z : X) → Contains (x ∷ xs) z → Contains (x ∷ ys) z = λ z has. subst (λ w. Contains (w ∷ ys) z) (sym first) (there z has) in
      let back' : (z : X) → Contains (x ∷ ys) z → Contains (x ∷ xs) z = λ z has. back z (subst (λ w. Contains (w ∷ ys) z) first has) in
      let up'' : ascends_by (key_before key cmp) (x ∷ ys) ≡ true = subst (λ w. ascends_by (key_before key cmp) (w ∷ ys) ≡ true) (sym first) up' in
      let rest : xs ≡ ys = same_list-from_Contains xs ys (ascends_by-tail x xs up) (ascends_by-tail y ys up') (rest_holds x xs ys up there') (rest_holds x ys xs up'' back') in
      ap (λ l. x ∷ l) rest ∙ ap (λ w. w ∷ ys) first

  -- two lists in order of which one has the values of the other are the same list
  pub same_list-from_IsPermutation : (xs ys : List X) → ascends_by (key_before key cmp) xs ≡ true → ascends_by (key_before key cmp) ys ≡ true → IsPermutation xs ys → xs ≡ ys
  same_list-from_IsPermutation xs ys up up' moved =
      same_list-from_Contains xs ys up up' (λ z. Contains-permutation xs ys z moved) (λ z. Contains-permutation ys xs z (IsPermutation-sym xs ys moved))
