use Rattle.host_run.proofs.StoredLemmas.{loads_stored}
use Rattle.host_run.proofs.laws.loads_are_stored.Goals as goal

-- by the laws of the files that hold offices
pub returns : goal.returns
returns g c =
    let laws = g.met.O.OfficeFiles in
    loads_stored g.O.OfficeFiles g.O.File.Office laws.opens_stored laws.refuses_held laws.closes_held laws.closes_reliable
    g.K.ZoneClocks g.K.Made.Clock g.F.Files g.F.File.Source
