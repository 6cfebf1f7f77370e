use Rattle.laws_text.proofs.ConnectionRunLemmas.{connections_isolated}
use Rattle.laws_text.proofs.connections.connections_show_no_more.Goals as goal

pub returns : goal.returns
returns g c = connections_isolated g.L.Listener g.L.Reader.Source g.L.Writer.Sink g.C.Clock g.O.Office c.texts_show_no_more.ensures.from_nothing
