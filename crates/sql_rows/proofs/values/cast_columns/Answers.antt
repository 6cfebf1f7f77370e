use Rattle.sql_rows.proofs.RowColumnLemmas.{instructed_reads_back}
use Rattle.sql_rows.proofs.values.cast_columns.Goals as goal

pub returns-in-AsInstructed : goal.returns-in-AsInstructed
returns-in-AsInstructed c = rw c.in-AsInstructed.is instructed_reads_back
