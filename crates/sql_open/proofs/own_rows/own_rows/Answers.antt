use Rattle.std.proofs.Common.{subst}
use Rattle.sqlite.specs.Schema.{Schema}
use Rattle.sql_lemmas.proofs.Listing.{shown_terms}
use Rattle.sql_lemmas.proofs.Reading.{AsksAs, sought}
use Rattle.sql_schema.specs.SqlTexts.{given_names}
use Rattle.sql_schema.specs.Statements.{HasTables, layout_two}
use Rattle.sql_stored.specs.KeyLemmas.{of_meeting}
use Rattle.sql_stored.specs.Keys.{first_test, keyed_text}
use Rattle.sql_stored.proofs.Finding.{left}
use Rattle.sql_open.proofs.MeetingRowLemmas.{shown_own}
use Rattle.sql_open.proofs.own_rows.own_rows.Goals as goal

pub returns-clause-rows : goal.returns-clause-rows
returns-clause-rows g c =
    let it = g.Q.Table.ListedTable.table in
    let declared = g.Q.Table.ListedTable.declared in
    shown_own g.S.Store c.args.tx.now.conn.now c.ask.new.tx.conn.now (λ v. v.items) c.ask.result c.args.meeting g.met.Q.Table.ListedTable.lists
    (subst (λ places. (s : Schema) → HasTables layout_two s → AsksAs s (keyed_text declared g.Q.Query.places) (sought it.number (first_test it.columns places) (shown_terms it)) (given_names declared)) c.requires g.met.Q.Query.finds.asks)
    (rw c.finding.ensures at c.ask.ensures.asked)

pub returns-clause-changes : goal.returns-clause-changes
returns-clause-changes g c =
    left g.S.Store c.args.tx.now.conn.now c.ask.new.tx.conn.now (λ v. v.items) c.ask.result g.met.Q.Table.ListedTable.lists g.met.Q.Query.finds.asks
    (λ params given row it means. of_meeting g.Q.Table.ListedTable.table.columns g.Q.Query.places row params c.args.meeting (g.Q.Query.key_of it) given (g.met.Q.Query.finds.holds _ it means)) (rw c.finding.ensures at c.ask.ensures.asked)
