use Rattle.http_listener.proofs.ListenerTurnLemmas.{loops_ran}
use Rattle.http_listener.proofs.laws.loops_are_runs.Goals as goal

pub returns : goal.returns
returns g c = loops_ran g.L.Listener g.L.Reader.Source g.L.Writer.Sink g.C.Clock g.O.Office
