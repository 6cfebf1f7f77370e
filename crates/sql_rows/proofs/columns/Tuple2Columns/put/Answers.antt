use Rattle.sql_rows.proofs.ColumnLemmas.{both_put}
use Rattle.sql_rows.proofs.columns.Tuple2Columns.put.Goals as goal

pub returns-clause-puts : goal.returns-clause-puts
returns-clause-puts g c =
    both_put g.A.Columns.width g.B.Columns.width g.A.Columns.kinds g.B.Columns.kinds g.A.Columns.means g.B.Columns.means c.args.self.now.0 c.args.self.now.1 _ _ _ c.in_ok-put.ensures.puts c.in_ok-put-2.ensures.puts
