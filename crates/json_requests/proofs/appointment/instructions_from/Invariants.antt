use Rattle.json_requests.specs.AppointmentBodies.{instruction_at}
use Rattle.json_requests.proofs.JsonReadUpTo.{IsReadUpTo}
use Rattle.json_requests.proofs.appointment.instructions_from.Given as goal

abbrev pub invariant-loop-item : goal.invariant-loop-item
invariant-loop-item l = IsReadUpTo instruction_at l.items l.found.items l.item-index
