use Rattle.sql_lemmas.proofs.Counting.{counting_changes, counting_rows}
use Rattle.sql_stored.proofs.table.row_count.Goals as goal

pub returns-clause-rows : goal.returns-clause-rows
returns-clause-rows g c = counting_rows g.met.T.CountedTable.counts (λ v. v.items) g.S.Store c.args.tx.now.conn.now c.query_all.new.self.conn.now c.query_all.result (λ clean. rw c.counting.ensures at (c.query_all.ensures.ok clean))

pub returns-clause-changes : goal.returns-clause-changes
returns-clause-changes g c =
    counting_changes g.met.T.CountedTable.counts (λ v. v.items) g.S.Store c.args.tx.now.conn.now c.query_all.new.self.conn.now c.query_all.result (λ clean. rw c.counting.ensures at (c.query_all.ensures.ok clean))
    (λ clean. rw c.counting.ensures at (c.query_all.ensures.err clean)) c.query_all.ensures.survives
