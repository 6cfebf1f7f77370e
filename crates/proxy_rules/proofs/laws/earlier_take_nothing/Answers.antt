use Rattle.proxy_rules.proofs.GovernedRuns.{earlier_nothing}
use Rattle.proxy_rules.proofs.laws.earlier_take_nothing.Goals as goal

pub returns : goal.returns
returns c = earlier_nothing
