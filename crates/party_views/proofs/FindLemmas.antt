-- What is found in a list.
use Rattle.std.proofs.Common.{◌≡◌, Bool, true, false, ◌&&◌, cond, List, [], ◌∷◌, filter, find, Some, refl, ap}

-- what is found is found among what passes
pub find-filter : {X : Type 0} (test : X → Bool) (xs : List X) → find test (filter test xs) ≡ find test xs
find-filter test [] = refl
find-filter test (x ∷ xs) =
    (elim (test x) as (λ b. test x ≡ b → find test (cond b (x ∷ filter test xs) (filter test xs)) ≡ cond b (Some x) (find test xs)) [
      | true ↦ λ passes. ap (λ b. cond b (Some x) (find test (filter test xs))) passes
      | false ↦ λ fails. find-filter test xs
    ]) refl

-- what passes both tests passes the second among what passes the first
pub filter-both : {X : Type 0} (one other : X → Bool) (xs : List X) → filter (λ x. one x && other x) xs ≡ filter other (filter one xs)
filter-both one other [] = refl
filter-both one other (x ∷ xs) =
    elim (one x) as (λ b. cond (b && other x) (x ∷ filter (λ x. one x && other x) xs) (filter (λ x. one x && other x) xs) ≡ filter other (cond b (x ∷ filter one xs) (filter one xs))) [
      | true ↦ ap (λ l. cond (other x) (x ∷ l) l) (filter-both one other xs)
      | false ↦ filter-both one other xs
    ]
