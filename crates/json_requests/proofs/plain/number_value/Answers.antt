use Rattle.json_requests.proofs.PlainLemmas.{begins-number}
use Rattle.json_requests.proofs.plain.number_value.Goals as goal

pub returns : goal.returns
returns c = begins-number c.in_ok-number.number c.args.text.now c.in_ok-number.rest.now c.in_ok-number.ensures.text c.in_ok-number.ensures.number c.in_ok-number.ensures.fits
