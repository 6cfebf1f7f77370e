use Rattle.std.proofs.Common.{◌≡◌, ◌+◌, ◌≤◌, length, arith}
use Rattle.sql_write.proofs.OpenLemmas.{first_opened, last_opened}
use Rattle.sql_write.proofs.meetings.open_meeting.Goals as goal
use Rattle.sql_write.proofs.meetings.open_meeting.Goals.{then-last-eq1+in_ok-open, else-last-eq1+in_ok-open-2}

pub returns-clause-writes : goal.returns-clause-writes
returns-clause-writes g c =
    let old = c.args.tx.now.conn.now in
    let mid = c.find.new.tx.conn.now in
    let reading = c.in_ok-further.ensures in
    let rows = c.in_ok-further.further.items in
    elim c.if-last-eq1.branch [
      | then-last-eq1+in_ok-open w ↦
          let one : length rows + 1 ≡ 1 = omega (arith, w.if-last-eq1.true, c.len.ensures) in
          rw w.tx-is (first_opened g.S.Store old mid reading.commits w.open.new.tx.conn.now w.in_ok-open.ensures.commits c.args.meeting c.args.moment rows w.in_ok-open.field-0 reading.rows one w.in_ok-open.ensures.set)
      | else-last-eq1+in_ok-open-2 w ↦
          let more : 2 ≤ c.len.result + 1 = omega (arith, w.if-last-eq1.false) in
          let last : c.len.result + 1 ≡ length rows + 1 = omega (arith, c.len.ensures) in
          rw w.tx-is (last_opened g.S.Store old mid reading.commits w.open-else-last-eq1.new.tx.conn.now w.in_ok-open-2.ensures.commits c.args.meeting c.args.moment rows w.in_ok-open-2.field-0 reading.rows (c.len.result + 1) last more w.in_ok-open-2.ensures.set)
    ]
