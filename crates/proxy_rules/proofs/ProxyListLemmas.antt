-- Lists: what a test keeps.
use Rattle.std.proofs.Common.{◌≡◌, Bool, true, false, cond, List, [], ◌∷◌, ◌++◌, refl, sym, ap, ◌∙◌}
use Rattle.std.specs.Prelude.{◌&&◌, Some, find, filter, reverse}
use Rattle.std.proofs.lemmas.List.{reverse-append, append-nil}
use Rattle.std.proofs.lemmas.List.Elements.{filter-append}

reverse-one_filtered : {X : Type 0} (b : Bool) (x : X) (xs : List X) → reverse (cond b (x ∷ xs) xs) ≡ reverse xs ++ cond b (x ∷ []) []
reverse-one_filtered true x xs = reverse-append (x ∷ []) xs
reverse-one_filtered false x xs = sym (append-nil (reverse xs))

pub reverse-filter : {X : Type 0} (q : X → Bool) (xs : List X) → reverse (filter q xs) ≡ filter q (reverse xs)
reverse-filter q [] = refl
reverse-filter q (x ∷ xs) =
    reverse-one_filtered (q x) x (filter q xs)
    ∙ ap (λ ys. ys ++ cond (q x) (x ∷ []) []) (reverse-filter q xs)
    ∙ sym (ap (filter q) (reverse-append (x ∷ []) xs) ∙ filter-append q (reverse xs) (x ∷ []))

find-filter : {X : Type 0} (p q : X → Bool) (xs : List X) → find p (filter q xs) ≡ find (λ x. q x && p x) xs
find-filter p q [] = refl
find-filter {X} p q (x ∷ xs) =
    elim (q x) as (λ b. find p (cond b (x ∷ filter q xs) (filter q xs)) ≡ cond (b && p x) (Some x) (find (λ x. q x && p x) xs)) [
      | true ↦ ap (cond (p x) (Some x)) (find-filter p q xs)
      | false ↦ find-filter p q xs
    ]

-- the last of what one test keeps that passes another is the last that passes both
pub last_filtered : {X : Type 0} (p q : X → Bool) (xs : List X) → find (λ x. q x && p x) (reverse xs) ≡ find p (reverse (filter q xs))
last_filtered p q xs = sym (ap (find p) (reverse-filter q xs) ∙ find-filter p q (reverse xs))
