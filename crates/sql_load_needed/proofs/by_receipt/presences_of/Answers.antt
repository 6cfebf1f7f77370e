use Rattle.std.proofs.Common.{refl}
use Rattle.sql_rows.specs.Marks.{presence_in}
use Rattle.sql_schema.specs.Contents as table
use Rattle.sql_model.proofs.ListChanges.{list_of}
use Rattle.sql_model.proofs.Names.ListName.{Presences}
use Rattle.sql_load.proofs.FoundRecordLemmas.{items_returned}
use Rattle.sql_load.proofs.NamedMeetingLemmas.{list_is}
use Rattle.sql_load_needed.proofs.by_receipt.presences_of.Goals as goal

pub returns-clause-holds : goal.returns-clause-holds
unfolding presence_in
returns-clause-holds g c =
    items_returned g.S.Store c.args.tx.now.conn.now c.find.new.tx.conn.now (λ v. v.items) table.presences (λ flat. flat.presences) (λ trees flat held. held.presences) _ c.find.result c.find.ensures.rows c.find.ensures.changes
    c.records_found.result c.records_found.ensures c.filed.result c.filed.ensures _ (λ flat office of preserved. list_is (list_of Presences) refl flat office c.args.meeting of)
