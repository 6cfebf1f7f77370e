use Rattle.std.proofs.Common.{Err, ◌≡◌, subst, sym}
use Rattle.std.specs.Prelude.{MatchResult}
use Rattle.sql_rows.specs.Meanings.{all_meanings}
use Rattle.sql_load.specs.LoadResults.{ReadAgrees, any_at_all, fault_of_error}
use Rattle.sql_open.specs.MeetingReading.{rows_of_meeting}
use Rattle.sql_open.proofs.MeetingReadLemmas.{own_read}
use Rattle.sql_open.proofs.own_rows.own.Goals as goal

pub returns-clause-read : goal.returns-clause-read
returns-clause-read g c =
    own_read g.S.Store c.args.tx.now.conn.now c.own_rows.new.tx.conn.now (λ v. v.items) g.Q.Table.ListedTable.table (rows_of_meeting g.Q.Table.ListedTable.table c.args.meeting) c.own_rows.result c.own_rows.ensures.rows c.own_rows.ensures.changes c.records_found.result
    (subst (λ means. MatchResult c.own_rows.result (λ v. ReadAgrees any_at_all c.records_found.result (all_meanings means v.items)) (λ e. c.records_found.result ≡ Err (fault_of_error e))) (sym g.met.Q.Table.ReadTable.reads_as) c.records_found.ensures) c.items.result c.items.ensures
