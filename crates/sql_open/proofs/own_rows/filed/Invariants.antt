use Rattle.std.proofs.Common.{◌≡◌}
use Rattle.sql_open.proofs.own_rows.filed.Given as goal

-- the items that were taken
abbrev pub invariant-loop-item : goal.invariant-loop-item
invariant-loop-item g l = l.filed ≡ l.yielded
