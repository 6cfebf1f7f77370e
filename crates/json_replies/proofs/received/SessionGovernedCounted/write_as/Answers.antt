use Rattle.std.proofs.Common.{refl}
use Rattle.json_replies.specs.AppointmentJson.{run_data}
use Rattle.json_replies.specs.Forms.{array_of}
use Rattle.json_replies.proofs.WritingLemmas.{object_written, seen_as, then, token_written}
use Rattle.json_replies.proofs.received.SessionGovernedCounted.write_as.Goals as goal

pub returns : goal.returns
returns c = object_written (token_written c.in_ok-begin_object.ensures) (then (seen_as (array_of run_data) c.as_slice.ensures c.in_ok-put_list.ensures) (then (seen_as (array_of run_data) c.as_slice-2.ensures c.in_ok-put_list-2.ensures) c.in_ok-put_number.ensures)) c.end_object.ensures refl
