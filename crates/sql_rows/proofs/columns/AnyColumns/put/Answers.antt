use Rattle.sqlite.specs.Value.{owned}
use Rattle.sqlite.specs.Values.{bound_value}
use Rattle.sql_rows.proofs.ColumnLemmas.{one_put}
use Rattle.sql_rows.proofs.columns.AnyColumns.put.Goals as goal

pub returns-clause-puts : goal.returns-clause-puts
returns-clause-puts g c =
    let means = c.in_ok-value.ensures in
    one_put g.T.Column.kind g.T.Column.means c.args.self.now (bound_value (owned c.in_ok-value.value)) _ _ c.put_value.ensures.puts (g.met.T.Column.stays (bound_value (owned c.in_ok-value.value)) c.args.self.now means) means
