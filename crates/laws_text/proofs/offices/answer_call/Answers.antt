use Rattle.laws_text.proofs.TextOfficeLemmas.{call_exchanged}
use Rattle.laws_text.proofs.offices.answer_call.Goals as goal

pub returns : goal.returns
returns g c = call_exchanged g.O.Office c.args.call c.performed.result c.args.office.now c.performed.new.office c.performed.ensures.done c.performed.ensures.leaves
