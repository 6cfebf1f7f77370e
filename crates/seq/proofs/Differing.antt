-- What adding a value, and changing the first value that passes a test, leave true of a list.
use Rattle.std.proofs.Common.{◌≡◌, ◌+◌, Bool, true, false, not, ◌&&◌, ◌||◌, cond, List, [], ◌∷◌, ◌++◌, length, refl, ap, sym, ◌∙◌, arith}
use Rattle.std.specs.Prelude.{Some, find, filter, count_by}
use Rattle.std.specs.List.{list_any, list_all}
use Rattle.std.specs.Cmp.{first_so, second_so}
use Rattle.std.proofs.lemmas.List.Sums.{sum_by-cons, sum_by_push}
use Rattle.std.proofs.Math.Bool.{and-true}
use Rattle.std.proofs.lemmas.Bool.{and_from, not-true, or_parts, or_right}
use Rattle.seq.specs.Edits.{change_first}
use Rattle.seq.specs.Ordered.{differ_by}

-- a value that fails the test, added at the end of values that fail it
any_snoc : {X : Type 0} (p : X → Bool) (xs : List X) (y : X) → list_any p xs ≡ false → p y ≡ false → list_any p (xs ++ y ∷ []) ≡ false
any_snoc p [] y h k = ap (λ b. b || false) k
any_snoc p (x ∷ xs) y h k = let both = or_parts (p x) (list_any p xs) h in ap (λ b. b || list_any p (xs ++ y ∷ [])) both.0 ∙ any_snoc p xs y both.1 k

-- a value that is unlike each of them may be added at the end
pub differ_snoc : {X : Type 0} (e : X → X → Bool) (xs : List X) (y : X) → differ_by e xs ≡ true → list_any (λ x. e x y) xs ≡ false → differ_by e (xs ++ y ∷ []) ≡ true
differ_snoc e [] y h k = refl
differ_snoc e (x ∷ xs) y h k =
    let both = or_parts (e x y) (list_any (λ z. e z y) xs) k in
    let alone = not-true (list_any (e x) xs) (first_so (not (list_any (e x) xs)) (differ_by e xs) h) in
    and_from _ _ (ap not (any_snoc (e x) xs y alone both.0)) (differ_snoc e xs y (second_so (not (list_any (e x) xs)) (differ_by e xs) h) both.1)

-- a change keeps the length
pub length-change_first : {X : Type 0} (p : X → Bool) (f : X → X) (xs : List X) → length (change_first p f xs) ≡ length xs
length-change_first p f [] = refl
length-change_first p f (x ∷ xs) =
    elim (p x) as (λ b. length (cond b (f x ∷ xs) (x ∷ change_first p f xs)) ≡ length (x ∷ xs))
    [ true ↦ refl | false ↦ omega (arith, length-change_first p f xs) ]

-- whether any passes stays so after a change that the test does not see
any_changed : {X : Type 0} (q p : X → Bool) (f : X → X) (xs : List X) → ((x : X) → q (f x) ≡ q x) → list_any q (change_first p f xs) ≡ list_any q xs
any_changed q p f [] k = refl
any_changed q p f (x ∷ xs) k =
    elim (p x) as (λ b. list_any q (cond b (f x ∷ xs) (x ∷ change_first p f xs)) ≡ (q x || list_any q xs))
    [ true ↦ ap (λ b. b || list_any q xs) (k x) | false ↦ ap (λ b. q x || b) (any_changed q p f xs k) ]

-- whether the values differ stays so after a change that their comparison does not see
pub differ_changed : {X : Type 0} (e : X → X → Bool) (p : X → Bool) (f : X → X) (xs : List X) → ((x y : X) → e (f x) y ≡ e x y) → ((x y : X) → e x (f y) ≡ e x y) → differ_by e (change_first p f xs) ≡ differ_by e xs
differ_changed e p f [] l r = refl
differ_changed e p f (x ∷ xs) l r =
    elim (p x) as (λ b. differ_by e (cond b (f x ∷ xs) (x ∷ change_first p f xs)) ≡ (not (list_any (e x) xs) && differ_by e xs)) [
      | true ↦ ap (λ q. not (list_any q xs) && differ_by e xs) (λ i y. l x y i)
      | false ↦ ap (λ b. not b && differ_by e (change_first p f xs)) (any_changed (e x) p f xs (r x)) ∙ ap (λ b. not (list_any (e x) xs) && b) (differ_changed e p f xs l r)
    ]

-- values that all pass still do after a change of the first of some kind, where what it becomes passes
pub all_changed_found : {X : Type 0} (q p : X → Bool) (f : X → X) (xs : List X) (x : X) → list_all q xs ≡ true → find p xs ≡ Some x → q (f x) ≡ true → list_all q (change_first p f xs) ≡ true
all_changed_found q p f [] x h = λ found good. absurd (cc)
all_changed_found q p f (y ∷ ys) x h =
    elim (p y) as (λ b. cond b (Some y) (find p ys) ≡ Some x → q (f x) ≡ true → list_all q (cond b (f y ∷ ys) (y ∷ change_first p f ys)) ≡ true) [
      | true ↦ λ found good. (let same : y ≡ x = cc in and_from _ _ (ap (λ z. q (f z)) same ∙ good) (second_so (q y) (list_all q ys) h))
      | false ↦ λ found good. and_from _ _ (first_so (q y) (list_all q ys) h) (all_changed_found q p f ys x (second_so (q y) (list_all q ys) h) found good)
    ]

-- where some value passes, one still does after a change that keeps what passes
pub any_preserved : {X : Type 0} (q p : X → Bool) (f : X → X) (xs : List X) → ((x : X) → q x ≡ true → q (f x) ≡ true) → list_any q xs ≡ true → list_any q (change_first p f xs) ≡ true
any_preserved q p f [] k = λ h. h
any_preserved q p f (x ∷ xs) k =
    elim (p x) as (λ b. (q x || list_any q xs) ≡ true → list_any q (cond b (f x ∷ xs) (x ∷ change_first p f xs)) ≡ true) [
      | true ↦ (elim (q x) as (λ c. q x ≡ c → (c || list_any q xs) ≡ true → (q (f x) || list_any q xs) ≡ true) [
        | true ↦ λ e _. ap (λ c. c || list_any q xs) (k x e)
        | false ↦ λ e h. or_right (q (f x)) (list_any q xs) h
      ]) refl
      | false ↦ (elim (q x) as (λ c. (c || list_any q xs) ≡ true → (c || list_any q (change_first p f xs)) ≡ true) [
        | true ↦ λ _. refl
        | false ↦ λ h. any_preserved q p f xs k h
      ])
    ]

-- what all values pass they pass by a weaker test
pub all_weaker : {X : Type 0} (q r : X → Bool) (xs : List X) → ((x : X) → q x ≡ true → r x ≡ true) → list_all q xs ≡ true → list_all r xs ≡ true
all_weaker q r [] k h = refl
all_weaker q r (x ∷ xs) k h = and_from _ _ (k x (first_so (q x) (list_all q xs) h)) (all_weaker q r xs k (second_so (q x) (list_all q xs) h))

count_cons : {X : Type 0} (p : X → Bool) (x : X) (xs : List X) → count_by p (x ∷ xs) ≡ cond (p x) 1 0 + count_by p xs
count_cons p x xs = sum_by-cons (λ y. cond (p y) 1 0) x xs

-- how many values of a part of the list pass is how many pass both tests
pub count_filter : {X : Type 0} (p q : X → Bool) (xs : List X) → count_by p (filter q xs) ≡ count_by (λ x. p x && q x) xs
count_filter p q [] = refl
count_filter p q (x ∷ xs) =
    (elim (q x) as (λ b. count_by p (cond b (x ∷ filter q xs) (filter q xs)) ≡ cond (p x && b) 1 0 + count_by (λ y. p y && q y) xs) [
      | true ↦ count_cons p x (filter q xs) ∙ ap (λ n. cond (p x) 1 0 + n) (count_filter p q xs) ∙ ap (λ b. cond b 1 0 + count_by (λ y. p y && q y) xs) (sym (and-true (p x)))
      | false ↦ (elim (p x) as (λ c. count_by p (filter q xs) ≡ cond (c && false) 1 0 + count_by (λ y. p y && q y) xs)
          [ true ↦ omega (arith, count_filter p q xs) | false ↦ omega (arith, count_filter p q xs) ])
    ]) ∙ sym (count_cons (λ y. p y && q y) x xs)

-- one value more is counted where it passes
pub count_snoc : {X : Type 0} (p : X → Bool) (xs : List X) (x : X) → count_by p (xs ++ x ∷ []) ≡ count_by p xs + cond (p x) 1 0
count_snoc p xs x = sum_by_push (λ y. cond (p y) 1 0) xs x
