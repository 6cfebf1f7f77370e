-- Whether any value of a list passes a test.
use Rattle.std.proofs.Common.{◌≡◌, Bool, true, false, ◌&&◌, ◌||◌, cond, List, [], ◌∷◌, ◌++◌, refl, sym, ap, ◌∙◌, ◌⊎◌, inl, inr, subst}
use Rattle.std.specs.Prelude.{Some, find, reverse}
use Rattle.std.specs.List.{list_all, list_any}
use Rattle.std.proofs.lemmas.List.{reverse-append}
use Rattle.std.proofs.Math.Bool.{or-true}
use Rattle.std.proofs.lemmas.Bool.{or_right}
use Rattle.std.specs.Cmp.{first_so, second_so}
use Rattle.laws_step.proofs.StepNumberLemmas.{In}

-- ---- choices

-- of two choices, what stands first in each, and what stands second
pub or_turned : (a b c d : Bool) → ((a || b) || (c || d)) ≡ ((a || c) || (b || d))
or_turned true b c d = refl
or_turned false true c d = sym (or-true c)
or_turned false false c d = refl

-- ---- tests of all values

-- a test that nothing passes
pub any-none : {X : Type 0} (xs : List X) → list_any (λ x. false) xs ≡ false
any-none [] = refl
any-none (x ∷ xs) = any-none xs

-- a value passes one of two tests exactly where one passes the first, or one the second
pub any-either : {X : Type 0} (p q : X → Bool) (xs : List X) → list_any (λ x. p x || q x) xs ≡ (list_any p xs || list_any q xs)
any-either p q [] = refl
any-either p q (x ∷ xs) = ap (λ b. (p x || q x) || b) (any-either p q xs) ∙ or_turned (p x) (q x) (list_any p xs) (list_any q xs)

-- a condition that is the same of all values
pub any-and : {X : Type 0} (b : Bool) (p : X → Bool) (xs : List X) → list_any (λ x. b && p x) xs ≡ (b && list_any p xs)
any-and true p xs = refl
any-and false p xs = any-none xs

-- pairs that pass may be looked for from either list
pub any-turned : {X Y : Type 0} (test : X → Y → Bool) (xs : List X) (ys : List Y)
    → list_any (λ x. list_any (test x) ys) xs ≡ list_any (λ y. list_any (λ x. test x y) xs) ys
any-turned test [] ys = sym (any-none ys)
any-turned test (x ∷ xs) ys =
    ap (λ b. list_any (test x) ys || b) (any-turned test xs ys)
    ∙ sym (any-either (test x) (λ y. list_any (λ z. test z y) xs) ys)

-- values that pass one test pass two others alike
pub any-alike : {X : Type 0} (preserved p q : X → Bool) (xs : List X) → list_all preserved xs ≡ true → ((x : X) → preserved x ≡ true → p x ≡ q x)
    → list_any p xs ≡ list_any q xs
any-alike preserved p q [] all alike = refl
any-alike preserved p q (x ∷ xs) all alike =
    ap (λ b. b || list_any p xs) (alike x (first_so (preserved x) (list_all preserved xs) all))
    ∙ ap (λ b. q x || b) (any-alike preserved p q xs (second_so (preserved x) (list_all preserved xs) all) alike)

-- ---- the value that passes

-- where a value of the list passes, some value does
pub any-In : {X : Type 0} (p : X → Bool) (xs : List X) (x : X) → In x xs → p x ≡ true → list_any p xs ≡ true
any-In p [] x here passes = absurd here
any-In p (y ∷ ys) x here passes = elim here [
  | inl same ↦ ap (λ b. b || list_any p ys) (ap p same ∙ passes)
  | inr later ↦ or_right (p y) (list_any p ys) (any-In p ys x later passes)
]

-- where some value passes, it is in the list
pub In-any : {X : Type 0} (p : X → Bool) (xs : List X) → list_any p xs ≡ true → (x : X) × (In x xs × (p x ≡ true))
In-any p [] some = absurd (cc)
In-any {X} p (y ∷ ys) some =
    (elim (p y) as (λ b. p y ≡ b → (b || list_any p ys) ≡ true → (x : X) × (In x (y ∷ ys) × (p x ≡ true))) [
      | true ↦ λ e _. (y, (inl refl, e))
      | false ↦ λ e later. let found = In-any p ys later in (found.0, (inr found.1.0, found.1.1))
    ]) refl some

-- what is found is in the list
pub In-find : {X : Type 0} (p : X → Bool) (xs : List X) (x : X) → find p xs ≡ Some x → In x xs
In-find p [] x found = absurd (cc)
In-find p (y ∷ ys) x found =
    (elim (p y) as (λ b. cond b (Some y) (find p ys) ≡ Some x → In x (y ∷ ys)) [
      | true ↦ λ h. (let same : y ≡ x = cc in inl same)
      | false ↦ λ h. inr (In-find p ys x h)
    ]) found

-- a value of two lists together is in one of them
In-append : {X : Type 0} (xs ys : List X) (x : X) → In x (xs ++ ys) → In x xs ⊎ In x ys
In-append [] ys x here = inr here
In-append (z ∷ zs) ys x here = elim here [
  | inl same ↦ inl (inl same)
  | inr later ↦ (elim (In-append zs ys x later) [ inl first ↦ inl (inr first) | inr second ↦ inr second ])
]

-- a list turned round has the same values
pub In-reverse : {X : Type 0} (xs : List X) (x : X) → In x (reverse xs) → In x xs
In-reverse [] x here = here
In-reverse {X} (y ∷ ys) x here =
    let turned : In x (reverse ys ++ y ∷ []) = subst (In x) (reverse-append (y ∷ []) ys) here in
    elim (In-append (reverse ys) (y ∷ []) x turned) [
      | inl later ↦ inr (In-reverse ys x later)
      | inr first ↦ (elim first [ inl same ↦ inl same | inr nothing ↦ absurd nothing ])
    ]
