-- What a change of the first value that passes a test is, by the place of that value.
use Rattle.std.proofs.Common.{◌≡◌, ℕ, ◌+◌, Bool, true, false, cond, List, [], ◌∷◌, refl, ap, sym, ◌∙◌, add-one}
use Rattle.std.specs.Prelude.{Option, Some, None, option_map, slice_set, slice_index_or}
use Rattle.std.specs.List.{position_from}
use Rattle.seq.specs.Edits.{change_first}

-- the list with the value at a place changed, and the same list where there is no place
abbrev pub put : {X : Type 0} → X → (X → X) → List X → Option ℕ → List X
put d f xs None = xs
put d f xs (Some i) = slice_set xs i (f (slice_index_or xs i d))

-- counted from one more, each place is one further
position-shift : {X : Type 0} (p : X → Bool) (n : ℕ) (xs : List X) → position_from p (n + 1) xs ≡ option_map (λ k. k + 1) (position_from p n xs)
position-shift p n [] = refl
position-shift p n (x ∷ xs) =
    elim (p x) as (λ b. cond b (Some (n + 1)) (position_from p (n + 1 + 1) xs) ≡ option_map (λ k. k + 1) (cond b (Some n) (position_from p (n + 1) xs)))
    [ true ↦ refl | false ↦ position-shift p (n + 1) xs ]

-- behind one more value, the change is at the place one further
put-cons : {X : Type 0} (d : X) (f : X → X) (x : X) (xs : List X) (o : Option ℕ) → x ∷ put d f xs o ≡ put d f (x ∷ xs) (option_map (λ k. k + 1) o)
put-cons d f x xs None = refl
put-cons d f x xs (Some i) = rw add-one refl

-- the first value that passes is changed at its place
pub change_first-position : {X : Type 0} (p : X → Bool) (d : X) (f : X → X) (xs : List X) → change_first p f xs ≡ put d f xs (position_from p 0 xs)
change_first-position p d f [] = refl
change_first-position p d f (x ∷ xs) =
    elim (p x) as (λ b. cond b (f x ∷ xs) (x ∷ change_first p f xs) ≡ put d f (x ∷ xs) (cond b (Some 0) (position_from p 1 xs)))
    [ true ↦ refl | false ↦ ap (λ ys. x ∷ ys) (change_first-position p d f xs) ∙ put-cons d f x xs (position_from p 0 xs) ∙ ap (put d f (x ∷ xs)) (sym (position-shift p 0 xs)) ]

-- where a value passes, the first that does is written anew
pub change_first-some : {X : Type 0} (p : X → Bool) (d : X) (f : X → X) (xs : List X) (i : ℕ) → position_from p 0 xs ≡ Some i → change_first p f xs ≡ slice_set xs i (f (slice_index_or xs i d))
change_first-some p d f xs i h = change_first-position p d f xs ∙ ap (put d f xs) h

-- where none passes, the list stays as it is
pub change_first-none : {X : Type 0} (p : X → Bool) (f : X → X) (n : ℕ) (xs : List X) → position_from p n xs ≡ None → change_first p f xs ≡ xs
change_first-none p f n [] = λ _. refl
change_first-none p f n (x ∷ xs) =
    elim (p x) as (λ b. cond b (Some n) (position_from p (n + 1) xs) ≡ None → cond b (f x ∷ xs) (x ∷ change_first p f xs) ≡ x ∷ xs)
    [ true ↦ λ h. absurd (cc) | false ↦ λ h. ap (λ ys. x ∷ ys) (change_first-none p f (n + 1) xs h) ]
