use Rattle.std.proofs.Common.{◌≡◌, Err, Ok, rules, subst, sym}
use Rattle.sql_load.specs.LoadResults.{any_at_all}
use Rattle.sql_load.specs.declared.fault.LoadError.TheVariants.{Memory}
use Rattle.sql_open.specs.MeetingReading.{own_in}
use Rattle.sql_load.specs.WholeReading.{IsReading}
use Rattle.sql_open.proofs.MeetingReadLemmas.{out_of_memory}
use Rattle.sql_open.proofs.own_rows.own_filed.Goals as goal

pub returns-in_err-filed-clause-read : goal.returns-in_err-filed-clause-read
returns-in_err-filed-clause-read g c =
    let is : c.from_residual-in_err-filed.result ≡ Err Memory = search rules in
    out_of_memory g.S.Store _ _ any_at_all any_at_all c.in_ok-items.items c.from_residual-in_err-filed.result (own_in g.Q.Table.ListedTable.table c.args.meeting) (own_in g.Q.Table.ListedTable.table c.args.meeting) is c.in_ok-items.ensures.read

pub returns-clause-read : goal.returns-clause-read
returns-clause-read g c =
    subst (λ l. IsReading g.S.Store c.args.tx.now.conn.now c.own.new.tx.conn.now any_at_all (Ok l) (own_in g.Q.Table.ListedTable.table c.args.meeting)) (sym c.in_ok-filed.ensures) c.in_ok-items.ensures.read
