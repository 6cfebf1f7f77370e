use Rattle.office_decisions.proofs.EarlyLemmas.{refusals_stand}
use Rattle.office_decisions.proofs.laws.early_refusals_stand.Goals as goal

pub returns : goal.returns
returns c = refusals_stand
