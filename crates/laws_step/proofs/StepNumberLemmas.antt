-- What stands in a list.
use Rattle.std.proofs.Common.{◌≡◌, Bool, true, false, cond, List, [], ◌∷◌, filter, ap, ◌⊎◌, inl, inr, refl, ◌∙◌, sym}

-- the value is in the list
abbrev pub In : {X : Type 0} → X → List X → Type 0
In x [] = ⊥
In x (y ∷ ys) = (y ≡ x) ⊎ In x ys

pub filter-In : {X : Type 0} (test : X → Bool) (xs : List X) (x : X) → In x xs → test x ≡ true → In x (filter test xs)
filter-In test [] x h passes = h
filter-In test (y ∷ ys) x h passes =
    (elim (test y) as (λ b. test y ≡ b → In x (cond b (y ∷ filter test ys) (filter test ys))) [
      | true ↦ λ e. (elim h [ inl same ↦ inl same | inr later ↦ inr (filter-In test ys x later passes) ])
      | false ↦ λ e. (elim h [
        | inl same ↦ absurd (cc (ap test same))
        | inr later ↦ filter-In test ys x later passes
      ])
    ]) refl

-- what a test keeps stands in the list, and passes
pub record Preserved {X : Type 0} (test : X → Bool) (xs : List X) (x : X) : Type 0 where
  pub here : In x xs
  pub passes : test x ≡ true

pub In-filter : {X : Type 0} (test : X → Bool) (xs : List X) (x : X) → In x (filter test xs) → Preserved test xs x
In-filter test [] x h = absurd h
In-filter {X} test (y ∷ ys) x h =
    (elim (test y) as (λ b. test y ≡ b → In x (cond b (y ∷ filter test ys) (filter test ys)) → Preserved test (y ∷ ys) x) [
      | true ↦ λ e stands. (elim stands [
        | inl same ↦ record { here = inl same; passes = ap test (sym same) ∙ e }
        | inr later ↦ (let k = In-filter test ys x later in record { here = inr k.here; passes = k.passes })
      ])
      | false ↦ λ e stands. (let k = In-filter test ys x stands in record { here = inr k.here; passes = k.passes })
    ]) refl h
