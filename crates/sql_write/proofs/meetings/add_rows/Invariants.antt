use Rattle.std.proofs.Common.{◌≡◌, Ok, take}
use Rattle.sql_write.specs.Writes.{Rewrites, any_records, rows_added}
use Rattle.sql_write.proofs.meetings.add_rows.Given as goal

abbrev pub invariant-loop-row : goal.invariant-loop-row
invariant-loop-row g l = record {
  same : l.tx.conn.ghost_name ≡ l.fn.tx.conn.ghost_name;
  turns : Rewrites {T = Unit {0}} g.S.Store l.fn.tx.conn.now l.tx.conn.now (Ok tt) any_records (rows_added l.meeting (take l.row-index l.rows));
}
