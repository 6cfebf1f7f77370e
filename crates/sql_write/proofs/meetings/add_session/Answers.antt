use Rattle.std.proofs.Common.{◌≡◌, ◌+◌, length, arith}
use Rattle.sql_write.proofs.OpenLemmas.{session_written}
use Rattle.sql_write.proofs.meetings.add_session.Goals as goal

pub returns-clause-writes : goal.returns-clause-writes
returns-clause-writes g c =
    let reading = c.in_ok-further.ensures in
    let rows = c.in_ok-further.further.items in
    let next : c.len.result + 2 ≡ length rows + 2 = omega (arith, c.len.ensures) in
    session_written g.S.Store c.args.tx.now.conn.now c.find.new.tx.conn.now reading.commits c.add.new.tx.conn.now c.in_ok-add.ensures.commits c.args.meeting c.args.appointed rows c.in_ok-add.field-0 reading.rows (c.len.result + 2) next c.in_ok-add.ensures.added
