use Rattle.std.proofs.Common.{refl}
use Rattle.proxy_rules.specs.Parties.{authorises}
use Rattle.sql_rows.specs.AppointmentRows.{authority_in}
use Rattle.sql_schema.specs.Contents as table
use Rattle.sql_model.proofs.ListChanges.{list_of}
use Rattle.sql_model.proofs.Names.ListName.{Authorities}
use Rattle.sql_load.proofs.FoundRecordLemmas.{items_returned, received_so}
use Rattle.sql_load_needed.proofs.look_ups.trusting.Goals as goal

pub returns-clause-holds : goal.returns-clause-holds
unfolding authority_in
returns-clause-holds g c =
    items_returned g.S.Store c.args.tx.now.conn.now c.find.new.tx.conn.now (λ v. v.items) table.authorities (λ flat. flat.authorities) (λ trees flat held. held.authorities) _ c.find.result c.find.ensures.rows c.find.ensures.changes
    c.records_found.result c.records_found.ensures c.items.result c.items.ensures _ (λ flat office of preserved. received_so (list_of Authorities) (λ l. refl) c.args.meeting (authorises c.args.party) flat office of)
