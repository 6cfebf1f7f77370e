use Rattle.std.proofs.Common.{◌≡◌, subst}
use Rattle.party_views.specs.RowsRead.{own_rows_part}
use Rattle.party_views.specs.PartyRows.{own_rows_in}
use Rattle.party_views.specs.Views.{meeting_at}
use Rattle.party_views.specs.declared.reads.Reads.{Reads}
use Rattle.sql_load.specs.TableLookUps.{HoldsOfStoredOffice}
use Rattle.sql_load_needed.proofs.needed_rows.read_own_rows_for.Goals as goal

pub returns-clause-holds : goal.returns-clause-holds
returns-clause-holds g c =
    subst (λ (what : Reads). HoldsOfStoredOffice g.S.Store c.args.tx.now.conn.now c.rows_read.new.tx.conn.now c.rows_read.result (λ office rows. rows ≡ own_rows_part what (own_rows_in (meeting_at office c.args.meeting) c.args.party))) c.reads_of.ensures c.rows_read.ensures.holds
