use Rattle.proxy_rules.proofs.ClaimLemmas.{governed_alike}
use Rattle.proxy_rules.proofs.laws.claims_govern.Goals as goal

pub returns : goal.returns
returns c = governed_alike
