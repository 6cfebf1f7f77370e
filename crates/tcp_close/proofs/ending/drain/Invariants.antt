-- What was taken so far.
use Rattle.std.proofs.Common.{◌-◌, ◌≡◌, ◌+◌, ◌≤◌}
use Rattle.tcp_close.specs.Draining.{PassesAtMost}
use Rattle.tcp_close.specs.declared.ending.TheConstants.{MOST_DRAINED}
use Rattle.tcp_close.proofs.ending.drain.Given as goal

abbrev pub invariant-loop-taken : goal.invariant-loop-taken
invariant-loop-taken g l = record {
  gave : PassesAtMost l.taken (g.S.Source.remaining l.initial.source) (g.S.Source.remaining l.source) (g.S.Source.passed l.initial.source) (g.S.Source.passed l.source);
  count : g.S.Source.passed l.source ≡ g.S.Source.passed l.initial.source + l.taken;
  bound : l.taken ≤ MOST_DRAINED;
  works : g.S.Source.failures l.source ≡ g.S.Source.failures l.initial.source;
}

abbrev pub decreases-loop-taken : goal.decreases-loop-taken
decreases-loop-taken g l = MOST_DRAINED - l.taken
