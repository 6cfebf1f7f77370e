use Rattle.json.specs.Value.{value_view}
use Rattle.json_requests.proofs.BodyValueLemmas.{place_seen}
use Rattle.json_requests.proofs.value.item.Goals as goal

pub returns : goal.returns
returns c = place_seen c.args.index (value_view c.args.value.now) c.at.result c.at.ensures
