use Rattle.sql_write.proofs.WrittenMoveLemmas.{ordered}
use Rattle.sql_write.proofs.polls.order_poll.Goals as goal

pub returns-clause-writes : goal.returns-clause-writes
returns-clause-writes g c =
    ordered g.S.Store c.args.tx.now.conn.now c.add.new.tx.conn.now c.args.meeting c.in_ok-add.field-0 c.in_ok-add.ensures.commits c.args.poll.now c.in_ok-add.ensures.added
