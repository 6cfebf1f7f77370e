-- What was served so far.
use Rattle.std.proofs.Common.{◌-◌, ◌≤◌}
use Rattle.http_listener.specs.Connections.{standing}
use Rattle.http_listener.proofs.ConnectionLemmas.{HasMade}
use Rattle.http_listener.proofs.listening.serve_loop.Given as goal

abbrev pub invariant-loop-served : goal.invariant-loop-served
invariant-loop-served g l = record {
  made : HasMade g.L.Listener g.L.Reader.Source g.L.Writer.Sink g.C.Clock g.O.Office l.served (standing l.initial.listener l.initial.clock l.initial.office) (standing l.listener l.clock l.office);
  bound : l.served ≤ l.count;
}

abbrev pub decreases-loop-served : goal.decreases-loop-served
decreases-loop-served g l = l.count - l.served
