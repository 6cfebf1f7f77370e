use Rattle.std.proofs.Common.{◌==◌, refl}
use Rattle.desk_words.specs.declared.records.CastMark.{CastMark}
use Rattle.sql_schema.specs.Contents as table
use Rattle.sql_model.proofs.ListChanges.{list_of}
use Rattle.sql_model.proofs.Names.ListName.{Casts}
use Rattle.sql_load.proofs.FoundRecordLemmas.{items_returned, received_so}
use Rattle.sql_load_needed.proofs.by_receipt.casts_on.Goals as goal

pub returns-clause-holds : goal.returns-clause-holds
returns-clause-holds g c =
    items_returned g.S.Store c.args.tx.now.conn.now c.find.new.tx.conn.now (λ v. v.items) table.casts (λ flat. flat.casts) (λ trees flat held. held.casts) _ c.find.result c.find.ensures.rows c.find.ensures.changes
    c.records_found.result c.records_found.ensures c.filed.result c.filed.ensures _ (λ flat office of preserved. received_so (list_of Casts) (λ l. refl) c.args.meeting (λ (cast : CastMark). cast.resolution == c.args.resolution) flat office of)
