use Rattle.std.proofs.Common.{subst}
use Rattle.sql_write.specs.Writes.{Rewrites, any_records, resolutions_added}
use Rattle.sql_write.proofs.SetLemmas.{meeting_written}
use Rattle.sql_write.proofs.meetings.add_meeting.Goals as goal

pub returns-clause-writes : goal.returns-clause-writes
returns-clause-writes g c =
    let m = c.args.meeting.now in
    let turns = subst (λ l. Rewrites g.S.Store c.add.new.tx.conn.now c.add_resolutions.new.tx.conn.now c.add_resolutions.result any_records (resolutions_added m.id l)) c.as_slice.ensures.value c.add_resolutions.ensures.turns in
    meeting_written g.S.Store c.args.tx.now.conn.now c.add.new.tx.conn.now c.add_resolutions.new.tx.conn.now c.in_ok-add.field-0 c.in_ok-add.ensures.commits c.add_resolutions.result m c.in_ok-add.ensures.added turns
