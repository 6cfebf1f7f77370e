use Rattle.sql_lemmas.proofs.Listing.{listing_changes, listing_rows}
use Rattle.sql_stored.proofs.table.all.Goals as goal

pub returns-clause-rows : goal.returns-clause-rows
returns-clause-rows g c = listing_rows g.met.T.ListedTable.lists (λ v. v.items) g.S.Store c.args.tx.now.conn.now c.query_all.new.self.conn.now c.query_all.result (λ clean. rw c.listing.ensures at (c.query_all.ensures.ok clean))

pub returns-clause-changes : goal.returns-clause-changes
returns-clause-changes g c =
    listing_changes g.met.T.ListedTable.lists (λ v. v.items) g.S.Store c.args.tx.now.conn.now c.query_all.new.self.conn.now c.query_all.result (λ clean. rw c.listing.ensures at (c.query_all.ensures.ok clean))
    (λ clean. rw c.listing.ensures at (c.query_all.ensures.err clean)) c.query_all.ensures.survives
