-- What a source and a sink over memory hold.
use Rattle.std.specs.Prelude.{ℕ, List}

-- the bytes that are still to come, and how many have been given
pub record SourceState : Type 0 where
  pub bytes : List ℕ
  pub passed : ℕ

-- the bytes that were written, and how many writes failed
pub record Stored : Type 0 where
  pub bytes : List ℕ
  pub failures : ℕ
