use Rattle.std.proofs.Common.{◌≡◌, Ok, Some}
use Rattle.sqlite.specs.Held.{state}
use Rattle.sql_schema.specs.Contents as table
use Rattle.sql_schema.specs.Statements.{IsRead, records_in}
use Rattle.sql_load.specs.LoadResults.{any_at_all}
use Rattle.sql_load.specs.WholeReading.{IsReading}
use Rattle.sql_open.proofs.MeetingReadLemmas.{first_lists}
use Rattle.sql_open.proofs.meeting_lists.read_meetings.Given as goal

-- the lists of the first meetings, of rows that the table holds
abbrev pub invariant-loop-row : goal.invariant-loop-row
invariant-loop-row g l = record {
  same : l.tx.conn.ghost_name ≡ l.fn.tx.conn.ghost_name;
  read : IsReading g.S.Store l.fn.tx.conn.now l.tx.conn.now any_at_all (Ok l.meetings) (first_lists l.all l.row-index);
  held : IsRead g.S.Store l.fn.tx.conn.now l.tx.conn.now → records_in table.meetings (state g.S.Store l.fn.tx.conn.now).now.trees ≡ Some l.all;
}
