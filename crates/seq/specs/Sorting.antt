-- The values of a list in order.
use Rattle.std.specs.Prelude.{ℕ, suc, Bool, List, [], ◌∷◌, if◌then◌else◌}

-- the list, with a value before the first one that it comes before
abbrev pub insert_by : {X : Type 0} → (X → X → Bool) → X → List X → List X
insert_by before x [] = x ∷ []
insert_by before x (y ∷ ys) = if before x y then x ∷ y ∷ ys else y ∷ insert_by before x ys

-- the values of the list, in order
abbrev pub sort_by : {X : Type 0} → (X → X → Bool) → List X → List X
sort_by before [] = []
sort_by before (x ∷ xs) = insert_by before x (sort_by before xs)

-- how many values stand before the place of a value that goes before the first one that it comes
-- before
abbrev pub place_by : {X : Type 0} → (X → X → Bool) → X → List X → ℕ
place_by before x [] = 0
place_by before x (y ∷ ys) = if before x y then 0 else suc (place_by before x ys)
