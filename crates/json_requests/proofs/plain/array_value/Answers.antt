use Rattle.json_requests.proofs.PlainLemmas.{begins-array}
use Rattle.json_requests.proofs.plain.array_value.Goals as goal

pub returns : goal.returns
returns c = begins-array c.in_ok-strings.strings c.args.text.now c.in_ok-inner.inner.now c.in_ok-strings.rest.now c.in_ok-inner.ensures c.in_ok-strings.ensures
