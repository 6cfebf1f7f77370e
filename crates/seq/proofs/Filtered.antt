-- What is kept passes: what is found in a list, and what stays of it.
use Rattle.std.proofs.Common.{◌≡◌, Bool, true, false, ◌&&◌, ◌||◌, cond, List, [], ◌∷◌, refl, sym, ap, ◌∙◌}
use Rattle.std.specs.Prelude.{Some, None, filter, find}
use Rattle.std.specs.Cmp.{first_so, second_so}
use Rattle.std.specs.List.{list_all, list_any}
use Rattle.std.specs.Option.{option_map_or}
use Rattle.std.proofs.lemmas.Bool.{and_from, or_from, or_right}
use Rattle.seq.proofs.Booleans.{neither_first, neither_second}

some_same : {X : Type 0} (x y : X) → Some x ≡ Some y → x ≡ y
some_same x y same = ap (λ o. option_map_or (λ z. z) o x) same

-- ---- what is found

-- what is found passes
pub found-passes : {X : Type 0} (p : X → Bool) (xs : List X) (x : X) → find p xs ≡ Some x → p x ≡ true
found-passes p [] x h = absurd (cc)
found-passes p (y ∷ ys) x h =
    (elim (p y) as (λ b. p y ≡ b → cond b (Some y) (find p ys) ≡ Some x → p x ≡ true) [
      | true ↦ λ e found. ap p (sym (some_same y x found)) ∙ e
      | false ↦ λ e found. found-passes p ys x found
    ]) refl h

-- what is found is one of the values
pub found-any : {X : Type 0} (p q : X → Bool) (xs : List X) (x : X) → find p xs ≡ Some x → q x ≡ true → list_any q xs ≡ true
found-any p q [] x found good = absurd (cc)
found-any p q (y ∷ ys) x found good =
    (elim (p y) as (λ b. cond b (Some y) (find p ys) ≡ Some x → (q y || list_any q ys) ≡ true) [
      | true ↦ λ h. ap (λ b. b || list_any q ys) (ap q (some_same y x h) ∙ good)
      | false ↦ λ h. or_right (q y) (list_any q ys) (found-any p q ys x h good)
    ]) found

-- where nothing is found, no value passes
pub none-found : {X : Type 0} (p : X → Bool) (xs : List X) → find p xs ≡ None → list_any p xs ≡ false
none-found p [] = λ _. refl
none-found p (x ∷ xs) =
    elim (p x) as (λ b. cond b (Some x) (find p xs) ≡ None → (b || list_any p xs) ≡ false)
    [ true ↦ λ h. absurd (cc) | false ↦ λ h. none-found p xs h ]

-- where no value passes, none passes a narrower test
pub none-narrower : {X : Type 0} (wide narrow : X → Bool) (xs : List X) → ((x : X) → wide x ≡ false → narrow x ≡ false) → list_any wide xs ≡ false → list_any narrow xs ≡ false
none-narrower wide narrow [] narrower none = refl
none-narrower wide narrow (x ∷ xs) narrower none =
    or_from (narrow x) (list_any narrow xs) (narrower x (neither_first (wide x) (list_any wide xs) none))
    (none-narrower wide narrow xs narrower (neither_second (wide x) (list_any wide xs) none))

-- ---- what stays

-- a value of a part of the list passes where one of the list passes both tests
pub any-filter : {X : Type 0} (p q : X → Bool) (xs : List X) → list_any p (filter q xs) ≡ list_any (λ x. q x && p x) xs
any-filter p q [] = refl
any-filter p q (x ∷ xs) =
    elim (q x) as (λ b. list_any p (cond b (x ∷ filter q xs) (filter q xs)) ≡ ((b && p x) || list_any (λ y. q y && p y) xs)) [
      | true ↦ ap (λ b. p x || b) (any-filter p q xs)
      | false ↦ any-filter p q xs
    ]

-- what all values pass, all values of a part of the list pass
pub all-filter : {X : Type 0} (p q : X → Bool) (xs : List X) → list_all p xs ≡ true → list_all p (filter q xs) ≡ true
all-filter p q [] all = refl
all-filter p q (x ∷ xs) all =
    let rest = all-filter p q xs (second_so (p x) (list_all p xs) all) in
    elim (q x) as (λ b. list_all p (cond b (x ∷ filter q xs) (filter q xs)) ≡ true) [
      | true ↦ and_from (p x) (list_all p (filter q xs)) (first_so (p x) (list_all p xs) all) rest
      | false ↦ rest
    ]
