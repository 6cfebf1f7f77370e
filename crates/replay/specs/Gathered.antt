-- What waits to be written.
use Rattle.std.specs.Prelude.{◌≡◌, ℕ, List, ◌++◌, Option}
use Rattle.std.specs.Io.KnownBytes.{Appends}

-- of a text the end waits, and the known bytes grew by the rest
abbrev pub IsGathered : Option (List ℕ) → Option (List ℕ) → List ℕ → List ℕ → Type 0
IsGathered old new waiting text =
    (written : List ℕ) × (text ≡ written ++ waiting) × Appends old new written
