-- A change of one value in a list.
use Rattle.std.specs.Prelude.{Bool, List, [], ◌∷◌, if◌then◌else◌}

-- the list, with the first value that passes the test changed; the same list where none passes
abbrev pub change_first : {X : Type 0} → (X → Bool) → (X → X) → List X → List X
change_first test change [] = []
change_first test change (x ∷ xs) =
    if test x then change x ∷ xs else x ∷ change_first test change xs
