use Rattle.laws_text.proofs.TextOfficeLemmas.{offices_answer}
use Rattle.laws_text.proofs.offices.offices_show_runs.Goals as goal

pub returns : goal.returns
returns g c = offices_answer g.O.Office
