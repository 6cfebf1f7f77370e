use Rattle.std.proofs.Common.{length, ◌-◌, ◌≡◌, ◌+◌, ◌≤◌, take}
use Rattle.std.specs.Io.KnownBytes.{Consumes}
use Rattle.byte_io.proofs.source.read_to_fill.Given as goal

-- What was read so far stands at the front of the buffer.
abbrev pub invariant-loop-filled : goal.invariant-loop-filled
invariant-loop-filled g l = record {
  bound : l.filled ≤ length l.buffer;
  count : g.S.Source.passed l.source ≡ g.S.Source.passed l.initial.source + l.filled;
  bytes : Consumes (g.S.Source.remaining l.initial.source) (g.S.Source.remaining l.source) (take l.filled l.buffer);
  works : g.S.Source.failures l.source ≡ g.S.Source.failures l.initial.source;
}

abbrev pub decreases-loop-filled : goal.decreases-loop-filled
decreases-loop-filled g l = length l.initial.buffer - l.filled
