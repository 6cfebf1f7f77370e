use Rattle.proxy_rules.proofs.GovernedRuns.{runs_hold}
use Rattle.proxy_rules.proofs.laws.runs_hold_what_governs.Goals as goal

pub returns : goal.returns
returns c = runs_hold
