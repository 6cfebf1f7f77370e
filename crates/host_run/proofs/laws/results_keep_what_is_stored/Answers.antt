use Rattle.host_run.proofs.StoredLemmas.{results_stored}
use Rattle.host_run.proofs.laws.results_keep_what_is_stored.Goals as goal

-- by the laws of the files that hold offices
pub returns : goal.returns
returns g c =
    let laws = g.met.O.OfficeFiles in
    results_stored g.O.OfficeFiles g.O.File.Office laws.opens_stored laws.refuses_held laws.closes_held laws.closes_reliable g.W.Sink
