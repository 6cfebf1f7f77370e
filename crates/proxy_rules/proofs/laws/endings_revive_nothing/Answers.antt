use Rattle.proxy_rules.proofs.GovernedRuns.{revive_nothing}
use Rattle.proxy_rules.proofs.laws.endings_revive_nothing.Goals as goal

pub returns : goal.returns
returns c = revive_nothing
