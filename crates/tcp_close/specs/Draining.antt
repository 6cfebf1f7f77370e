-- What was taken of a source.
use Rattle.std.specs.Prelude.{◌≡◌, ℕ, ◌+◌, ◌≤◌, List, length, Option}
use Rattle.std.specs.Io.KnownBytes.{Consumes}

-- some bytes came of a source, at most so many
pub record PassesAtMost (most : ℕ) (known left : Option (List ℕ)) (passed passed' : ℕ)
    : Type 0 where
  pub bytes : List ℕ
  pub consumed : Consumes known left bytes
  pub counted : passed' ≡ passed + length bytes
  pub bound : length bytes ≤ most
