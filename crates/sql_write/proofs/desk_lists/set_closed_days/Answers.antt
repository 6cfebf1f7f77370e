use Rattle.std.proofs.Common.{subst}
use Rattle.sql_write.specs.Writes.{Rewrites, no_days, days_added}
use Rattle.sql_write.proofs.SetLemmas.{days_written}
use Rattle.sql_write.proofs.desk_lists.set_closed_days.Goals as goal

pub returns-clause-writes : goal.returns-clause-writes
returns-clause-writes g c =
    let turns = subst (λ l. Rewrites g.S.Store c.empty.new.tx.conn.now c.add_days.new.tx.conn.now c.add_days.result no_days (days_added l)) c.as_slice.ensures.value c.add_days.ensures.turns in
    days_written g.S.Store c.args.tx.now.conn.now c.empty.new.tx.conn.now c.add_days.new.tx.conn.now c.in_ok-empty.field-0 c.in_ok-empty.ensures.commits c.add_days.result c.args.days.now c.as_slice.ensures.valid c.in_ok-empty.ensures.emptied turns
