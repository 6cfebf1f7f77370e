use Rattle.std.proofs.Common.{◌≡◌, Ok, take}
use Rattle.sql_write.specs.Writes.{Rewrites, no_days, days_added}
use Rattle.sql_write.proofs.desk_lists.add_days.Given as goal

abbrev pub invariant-loop-day : goal.invariant-loop-day
invariant-loop-day g l = record {
  same : l.tx.conn.ghost_name ≡ l.fn.tx.conn.ghost_name;
  turns : Rewrites {T = Unit {0}} g.S.Store l.fn.tx.conn.now l.tx.conn.now (Ok tt) no_days (days_added (take l.day-index l.days));
}
