use Rattle.sql_rows.proofs.RowReadUpTo.{AreReadUpTo}
use Rattle.sql_rows.proofs.list.records.Given as goal

abbrev pub invariant-loop-row : goal.invariant-loop-row
invariant-loop-row g l = AreReadUpTo g.T.FromRow.means l.rows l.found.items l.row-index
