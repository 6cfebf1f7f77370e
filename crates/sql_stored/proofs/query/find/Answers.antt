use Rattle.sql_stored.proofs.Finding.{bare, found, left}
use Rattle.sql_stored.proofs.query.find.Goals as goal

pub returns-clause-rows : goal.returns-clause-rows
returns-clause-rows g c =
    found g.S.Store c.args.tx.now.conn.now c.ask.new.tx.conn.now (λ v. v.items) c.ask.result g.met.Q.Table.ListedTable.lists g.met.Q.Query.finds.asks
    (λ params given row it means. g.met.Q.Key.RowKey.decides g.Q.Table.ListedTable.table.columns g.Q.Query.places c.args.key (g.Q.Query.key_of it) params row given (g.met.Q.Query.finds.holds _ it means)) (rw c.finding.ensures at c.ask.ensures.asked)

pub returns-clause-changes : goal.returns-clause-changes
returns-clause-changes g c =
    left g.S.Store c.args.tx.now.conn.now c.ask.new.tx.conn.now (λ v. v.items) c.ask.result g.met.Q.Table.ListedTable.lists g.met.Q.Query.finds.asks
    (λ params given row it means. g.met.Q.Key.RowKey.decides g.Q.Table.ListedTable.table.columns g.Q.Query.places c.args.key (g.Q.Query.key_of it) params row given (g.met.Q.Query.finds.holds _ it means)) (rw c.finding.ensures at c.ask.ensures.asked)

pub returns-clause-commits : goal.returns-clause-commits
returns-clause-commits g c = bare g.S.Store c.args.tx.now.conn.now c.ask.new.tx.conn.now (λ v. v.items) c.ask.result g.met.Q.Query.finds.alone (rw c.finding.ensures at c.ask.ensures.asked)
