use Rattle.std.proofs.Common.{◌≡◌, ◌+◌, drop}
use Rattle.sql_load.specs.OwnLists.{number_from}
use Rattle.sql_load.proofs.ordered_lists.are_numbered.Given as goal

-- so far the numbers go on from the first
abbrev pub invariant-loop-row : goal.invariant-loop-row
invariant-loop-row g l = (l.wanted ≡ l.row-index + l.fn.from) × (number_from l.fn.from l.rows ≡ number_from l.wanted (drop l.row-index l.rows))
