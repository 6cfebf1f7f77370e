-- What the one buffer holds, and what a read does to it.
use Rattle.std.specs.Prelude.{◌≡◌, ℕ, ◌+◌, ◌≤◌, List, Option, ◌++◌, length}
use Rattle.std.specs.Io.KnownBytes.{Consumes}

-- the bytes of the last line, and those that were read and not yet given
pub record HeldLine : Type 0 where
  pub line : List ℕ
  pub pending : List ℕ

-- the line and the pending bytes lie in a buffer of 81,922 bytes
pub record IsWindow (line_start line_len start end capacity : ℕ) : Type 0 where
  pub capacity_is : capacity ≡ 81922
  pub line_inside : line_start + line_len ≤ capacity
  pub in_order : start ≤ end
  pub inside : end ≤ capacity

-- n bytes came from the source, and stand behind those that were pending
pub record Arrives (old new : List ℕ) (known left : Option (List ℕ)) (n : ℕ) : Type 0 where
  pub bytes : List ℕ
  pub count : length bytes ≡ n
  pub behind : new ≡ old ++ bytes
  pub consumed : Consumes known left bytes
