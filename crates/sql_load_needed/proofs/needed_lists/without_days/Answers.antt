use Rattle.std.proofs.Common.{◌≡◌, Err, rules}
use Rattle.sql_load.specs.LoadResults.{fault_of_error}
use Rattle.sql_load_needed.proofs.LoadedMeetingDayLemmas.{asked_so, asked_stop}
use Rattle.sql_load_needed.proofs.needed_lists.without_days.Goals as goal

pub returns-in_err-all-clause-holds : goal.returns-in_err-all-clause-holds
returns-in_err-all-clause-holds g c =
    let is : c.from_residual.result ≡ Err (fault_of_error c.in_err-all.field-0.0) = search rules in
    asked_stop g.S.Store c.args.tx.now.conn.now c.all.new.tx.conn.now c.all.ensures.preserved c.all.ensures.was_open c.all.ensures.crash _ c.in_err-all.field-0.0 c.from_residual.result is

pub returns-clause-holds : goal.returns-clause-holds
returns-clause-holds g c =
    asked_so g.S.Store c.args.tx.now.conn.now c.all.new.tx.conn.now c.all.ensures.preserved c.all.ensures.was_open c.all.ensures.crash _ (λ v. v.items) c.in_ok-all.field-0 c.no_days.result c.in_ok-all.ensures.rows
    (λ office. c.no_days.ensures)
