use Rattle.json_requests.specs.DayBodies.{day_at}
use Rattle.json_requests.proofs.JsonReadUpTo.{IsReadUpTo}
use Rattle.json_requests.proofs.closed.days_from.Given as goal

abbrev pub invariant-loop-item : goal.invariant-loop-item
invariant-loop-item l = IsReadUpTo day_at l.items l.found.items l.item-index
