use Rattle.host_run.proofs.StoredLemmas.{serves_stored}
use Rattle.host_run.proofs.laws.serves_are_stored.Goals as goal

-- by the laws of the files that hold offices, of crashes and of loops
pub returns : goal.returns
returns g c =
    let laws = g.met.O.OfficeFiles in
    serves_stored g.O.OfficeFiles g.O.File.Office laws.opens_stored laws.refuses_held laws.closes_held laws.closes_reliable g.K.ZoneClocks g.K.Made.Clock
    c.crashes_leave_a_run.ensures g.P.Ports g.P.Bound.Listener g.P.Bound.Reader.Source g.P.Bound.Writer.Sink g.W.Sink c.loops_are_runs.ensures
