use Rattle.std.proofs.Common.{◌≡◌, map}
use Rattle.sql_load.specs.OwnLists.{unnumbered}
use Rattle.sql_load.proofs.ordered_lists.without_numbers.Given as goal

-- the first things
abbrev pub invariant-loop-row : goal.invariant-loop-row
invariant-loop-row g l = l.items.items ≡ map unnumbered l.yielded
