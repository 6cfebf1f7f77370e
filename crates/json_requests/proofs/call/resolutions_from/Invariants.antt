use Rattle.json_requests.specs.CallBodies.{resolution_at}
use Rattle.json_requests.proofs.JsonReadUpTo.{IsReadUpTo}
use Rattle.json_requests.proofs.call.resolutions_from.Given as goal

abbrev pub invariant-loop-item : goal.invariant-loop-item
invariant-loop-item l = IsReadUpTo resolution_at l.items l.found.items l.item-index
