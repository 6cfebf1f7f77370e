use Rattle.sql_desk_tables.proofs.TableColumnLemmas.{columns_stand}
use Rattle.sql_desk_tables.proofs.columns.desk_has_columns.Goals as goal

pub returns : goal.returns
returns g = columns_stand
