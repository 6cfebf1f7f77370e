use Rattle.std.proofs.Common.{refl}
use Rattle.proxy_rules.specs.Parties.{is_demanded_by}
use Rattle.sql_rows.specs.Marks.{demand_mark_in}
use Rattle.sql_schema.specs.Contents as table
use Rattle.sql_model.proofs.ListChanges.{list_of}
use Rattle.sql_model.proofs.Names.ListName.{Demands}
use Rattle.sql_load.proofs.FoundRecordLemmas.{items_returned, received_so}
use Rattle.sql_load_needed.proofs.look_ups.demands_of.Goals as goal

pub returns-clause-holds : goal.returns-clause-holds
unfolding demand_mark_in
returns-clause-holds g c =
    items_returned g.S.Store c.args.tx.now.conn.now c.find.new.tx.conn.now (λ v. v.items) table.demands (λ flat. flat.demands) (λ trees flat held. held.demands) _ c.find.result c.find.ensures.rows c.find.ensures.changes
    c.records_found.result c.records_found.ensures c.items.result c.items.ensures _ (λ flat office of preserved. received_so (list_of Demands) (λ l. refl) c.args.meeting (is_demanded_by c.args.party) flat office of)
