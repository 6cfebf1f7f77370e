use Rattle.std.proofs.Common.{refl}
use Rattle.proxy_rules.specs.Holdings.{is_ended_of}
use Rattle.sql_rows.specs.AppointmentRows.{ending_in}
use Rattle.sql_schema.specs.Contents as table
use Rattle.sql_model.proofs.ListChanges.{list_of}
use Rattle.sql_model.proofs.Names.ListName.{Endings}
use Rattle.sql_load.proofs.FoundRecordLemmas.{items_returned, received_so}
use Rattle.sql_load_needed.proofs.look_ups.ended_by.Goals as goal

pub returns-clause-holds : goal.returns-clause-holds
unfolding ending_in
returns-clause-holds g c =
    items_returned g.S.Store c.args.tx.now.conn.now c.find.new.tx.conn.now (λ v. v.items) table.endings (λ flat. flat.endings) (λ trees flat held. held.endings) _ c.find.result c.find.ensures.rows c.find.ensures.changes
    c.records_found.result c.records_found.ensures c.items.result c.items.ensures _ (λ flat office of preserved. received_so (list_of Endings) (λ l. refl) c.args.meeting (is_ended_of c.args.member) flat office of)
