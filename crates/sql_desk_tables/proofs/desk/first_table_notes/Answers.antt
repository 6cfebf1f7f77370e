use Rattle.sql_desk_tables.proofs.TableDeskLemmas.{notes}
use Rattle.sql_desk_tables.proofs.desk.first_table_notes.Goals as goal

pub returns : goal.returns
returns g = notes
