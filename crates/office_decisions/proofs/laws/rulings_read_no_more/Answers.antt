use Rattle.office_decisions.proofs.ReadLaws.{no_more}
use Rattle.office_decisions.proofs.laws.rulings_read_no_more.Goals as goal

pub returns : goal.returns
returns c = no_more
