use Rattle.laws_text.proofs.ConnectionRunLemmas.{connections_answer}
use Rattle.laws_text.proofs.connections.connections_are_answered.Goals as goal

pub returns : goal.returns
returns g c = connections_answer g.L.Listener g.L.Reader.Source g.L.Writer.Sink g.C.Clock g.O.Office
