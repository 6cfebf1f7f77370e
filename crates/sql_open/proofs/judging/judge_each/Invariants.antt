use Rattle.std.proofs.Common.{◌≡◌, Ok, Some}
use Rattle.sqlite.specs.Held.{state}
use Rattle.sql_schema.specs.Statements.{IsRead}
use Rattle.sql_load.specs.LoadResults.{any_at_all}
use Rattle.sql_open.specs.Judging.{judged_in, rows_judged}
use Rattle.sql_load.specs.WholeReading.{IsReading}
use Rattle.sql_open.proofs.MeetingReadLemmas.{first_counted}
use Rattle.sql_open.proofs.judging.judge_each.Given as goal

-- the first meetings are judged, of rows that the table holds, and their rows counted
abbrev pub invariant-loop-row : goal.invariant-loop-row
invariant-loop-row g l = record {
  same : l.tx.conn.ghost_name ≡ l.fn.tx.conn.ghost_name;
  read : IsReading g.S.Store l.fn.tx.conn.now l.tx.conn.now any_at_all (Ok l.listed) (first_counted rows_judged judged_in l.all 0 l.row-index);
  held : IsRead g.S.Store l.fn.tx.conn.now l.tx.conn.now → rows_judged (state g.S.Store l.fn.tx.conn.now).now.trees ≡ Some l.all;
}
