use Rattle.json_requests.proofs.PlainLemmas.{begins-string}
use Rattle.json_requests.proofs.plain.string_value.Goals as goal

pub returns : goal.returns
returns c = begins-string c.in_ok-string.string c.args.text.now c.in_ok-string.rest.now c.in_ok-string.ensures.text c.in_ok-string.ensures.plain
