use Rattle.proxy_rules.proofs.ProxyRunLemmas.{are_in-runs_that}
use Rattle.proxy_rules.proofs.laws.runs_hold_what_passes.Goals as goal

pub returns : goal.returns
returns c = λ test n place. are_in-runs_that test n place
