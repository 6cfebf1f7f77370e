use Rattle.sql_desk_tables.proofs.TableColumnLemmas.{columns_one_stand}
use Rattle.sql_desk_tables.proofs.columns.desk_one_has_columns.Goals as goal

pub returns : goal.returns
returns g = columns_one_stand
