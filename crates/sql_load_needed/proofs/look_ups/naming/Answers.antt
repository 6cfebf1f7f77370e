use Rattle.std.proofs.Common.{refl}
use Rattle.proxy_rules.specs.Parties.{names}
use Rattle.sql_schema.specs.Contents as table
use Rattle.sql_model.proofs.ListChanges.{list_of}
use Rattle.sql_model.proofs.Names.ListName.{Appointments}
use Rattle.sql_load.proofs.FoundRecordLemmas.{items_returned, received_so}
use Rattle.sql_load_needed.proofs.look_ups.naming.Goals as goal

pub returns-clause-holds : goal.returns-clause-holds
returns-clause-holds g c =
    items_returned g.S.Store c.args.tx.now.conn.now c.find.new.tx.conn.now (λ v. v.items) table.appointments (λ flat. flat.appointments) (λ trees flat held. held.appointments) _ c.find.result c.find.ensures.rows c.find.ensures.changes
    c.records_found.result c.records_found.ensures c.items.result c.items.ensures _ (λ flat office of preserved. received_so (list_of Appointments) (λ l. refl) c.args.meeting (names c.args.party) flat office of)
