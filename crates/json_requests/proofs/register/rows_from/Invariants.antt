use Rattle.json_requests.specs.RegisterBodies.{row_at}
use Rattle.json_requests.proofs.JsonReadUpTo.{IsReadUpTo}
use Rattle.json_requests.proofs.register.rows_from.Given as goal

abbrev pub invariant-loop-item : goal.invariant-loop-item
invariant-loop-item l = IsReadUpTo row_at l.items l.found.items l.item-index
