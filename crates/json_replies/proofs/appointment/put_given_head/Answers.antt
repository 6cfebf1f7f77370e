use Rattle.std.proofs.lemmas.Result.{on_ok_weaker}
use Rattle.json_replies.specs.AppointmentJson.{instruction_data}
use Rattle.json_replies.specs.Forms.{array_of, decimal_data}
use Rattle.json_replies.proofs.WritingLemmas.{seen_as, then}
use Rattle.json_replies.proofs.appointment.put_given_head.Goals as goal

pub returns : goal.returns
returns c = on_ok_weaker c.put_number-2.result (λ rest. then c.in_ok-put_or_null.ensures (then (seen_as decimal_data c.from.ensures.value c.in_ok-put_number.ensures) (then (seen_as (array_of instruction_data) c.as_slice.ensures.value c.in_ok-put_list.ensures) rest))) c.put_number-2.ensures
