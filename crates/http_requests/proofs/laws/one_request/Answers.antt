use Rattle.http_requests.proofs.RequestLawLemmas.{spells-one}
use Rattle.http_requests.proofs.laws.one_request.Goals as goal

pub returns : goal.returns
returns c = spells-one c.one_front.ensures c.one_head.ensures
