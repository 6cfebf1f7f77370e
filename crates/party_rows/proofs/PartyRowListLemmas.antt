-- What is made of what was returned, and how many places there are.
use Rattle.std.proofs.Common.{◌≡◌, suc, Bool, true, false, cond, List, [], ◌∷◌, length, map, filter, refl, ap, ◌∙◌, Result, Ok, Err, IfOk}
use Rattle.std.specs.Prelude.{MatchResult}
use Rattle.std.proofs.lemmas.List.{length-map}
use Rattle.keyed_seq.specs.Positions.{places_passing}

-- where want of memory may be met
pub if_ok : {X E : Type 0} (P Q : X → Type 0) (r : Result X E) → ((x : X) → P x → Q x) → MatchResult r P (λ _. Unit {0}) → IfOk r Q
if_ok P Q (Ok x) next is = next x is
if_ok P Q (Err e) next is = tt

-- there are as many places as values that pass
pub length-places : {X : Type 0} (test : X → Bool) (xs : List X) → length (places_passing test xs) ≡ length (filter test xs)
length-places test [] = refl
length-places test (x ∷ xs) =
    let more = length-map (places_passing test xs) suc ∙ length-places test xs in
    elim (test x) as (λ b. length (cond b (0 ∷ map suc (places_passing test xs)) (map suc (places_passing test xs))) ≡ length (cond b (x ∷ filter test xs) (filter test xs)))
    [ true ↦ ap suc more | false ↦ more ]
