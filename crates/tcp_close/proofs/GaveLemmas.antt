-- One read after another.
use Rattle.std.proofs.Common.{◌≡◌, ℕ, ◌+◌, ◌≤◌, List, ◌++◌, Option, length, take, arith, length-append, length-take}
use Rattle.std.proofs.KnownBytes.{Consumes-trans}
use Rattle.std.specs.Io.KnownBytes.{Consumes}
use Rattle.tcp_close.specs.Draining.{PassesAtMost}

-- a read that gave the front of a piece
pub gave-more : (most n m : ℕ) (a b c : Option (List ℕ)) (p q r : ℕ) (piece : List ℕ) → n + m ≤ most → m ≤ length piece → PassesAtMost n a b p q → Consumes b c (take m piece) → r ≡ q + m → PassesAtMost most a c p r
gave-more most n m a b c p q r piece room within gave next counted = record {
  bytes = gave.bytes ++ take m piece;
  consumed = Consumes-trans a b c gave.bytes (take m piece) gave.consumed next;
  counted = simp (length-append, length-take) (omega (arith, gave.counted, counted, within));
  bound = simp (length-append, length-take) (omega (arith, gave.bound, room, within));
}
