use Rattle.std.proofs.Common.{◌≡◌, ℕ, Ok, Some}
use Rattle.sqlite.specs.Held.{state}
use Rattle.sql_schema.specs.Statements.{IsRead}
use Rattle.sql_load.specs.LoadResults.{any_at_all}
use Rattle.sql_open.specs.Judging.{judged_but_votes}
use Rattle.sql_open.specs.Votes.{judged_votes}
use Rattle.sql_load.specs.WholeReading.{IsReading}
use Rattle.sql_open.proofs.MeetingReadLemmas.{first_counted}
use Rattle.sql_open.proofs.judging.judge_meeting.Given as goal

-- the votes on the first polls are judged, of lists that the tables hold, and the rows counted
abbrev pub invariant-loop-poll : goal.invariant-loop-poll
invariant-loop-poll g l = record {
  rows : ℕ;
  same : l.tx.conn.ghost_name ≡ l.fn.tx.conn.ghost_name;
  read : IsReading g.S.Store l.fn.tx.conn.now l.tx.conn.now any_at_all (Ok l.count) (first_counted (judged_but_votes l.fn.row) (judged_votes l.fn.row.id) l.polls rows l.poll-index);
  held : IsRead g.S.Store l.fn.tx.conn.now l.tx.conn.now → judged_but_votes l.fn.row (state g.S.Store l.fn.tx.conn.now).now.trees ≡ Some (record { rows = rows; polls = l.polls });
}
