use Rattle.json_requests.proofs.JsonLawLemmas.{route_comes_first_lem}
use Rattle.json_requests.proofs.laws.route_comes_first.Goals as goal

pub returns : goal.returns
returns c = route_comes_first_lem
