use Rattle.json_requests.proofs.JsonLawLemmas.{refusals_are_two_lem}
use Rattle.json_requests.proofs.laws.refusals_are_two.Goals as goal

pub returns : goal.returns
returns c = refusals_are_two_lem
