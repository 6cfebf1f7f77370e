use Rattle.json_requests.specs.KeyBodies.{key_row_of}
use Rattle.json_requests.proofs.JsonReadUpTo.{IsReadUpTo}
use Rattle.json_requests.proofs.keys.rows_from.Given as goal

abbrev pub invariant-loop-item : goal.invariant-loop-item
invariant-loop-item l = IsReadUpTo key_row_of l.items l.found.items l.item-index
