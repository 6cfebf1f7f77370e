use Rattle.std.proofs.Common.{◌≡◌, ◌++◌, List, Ok, length}
use Rattle.desk_words.specs.declared.records.RegisterRow.{RegisterRow}
use Rattle.sql_write.specs.Writes.{Rewrites, any_records, rows_added}
use Rattle.sql_write.proofs.meetings.add_register.Given as goal

abbrev pub invariant-loop-first : goal.invariant-loop-first
invariant-loop-first g l = record {
  same : l.tx.conn.ghost_name ≡ l.fn.tx.conn.ghost_name;
  turns : (done : List RegisterRow) × (l.fn.rows ≡ done ++ l.rest) × Rewrites {T = Unit {0}} g.S.Store l.fn.tx.conn.now l.tx.conn.now (Ok tt) any_records (rows_added l.meeting done);
}

abbrev pub decreases-loop-first : goal.decreases-loop-first
decreases-loop-first g l = length l.rest
