use Rattle.proxy_rules.proofs.ProxyRunLemmas.{are_parted-runs_that}
use Rattle.proxy_rules.proofs.laws.runs_are_parted.Goals as goal

pub returns : goal.returns
returns c = λ test n. are_parted-runs_that test n
