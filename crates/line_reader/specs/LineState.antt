-- What the line reader shows.
use Rattle.std.specs.Prelude.{ℕ, List}

-- the last line, the bytes that were read and not yet given, and how many bytes were read in all
pub record LineReading : Type 0 where
  pub line : List ℕ
  pub pending : List ℕ
  pub taken : ℕ
