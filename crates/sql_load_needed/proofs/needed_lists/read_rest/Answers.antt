use Rattle.std.proofs.Common.{◌≡◌, Err, rules}
use Rattle.sql_load.proofs.StoredOfficeLemmas.{holds_stop}
use Rattle.sql_load_needed.proofs.needed_lists.read_rest.Goals as goal

pub returns-in_err-closed-clause-holds : goal.returns-in_err-closed-clause-holds
returns-in_err-closed-clause-holds g c =
    let is : c.from_residual.result ≡ Err c.in_err-closed.field-0.0 = search rules in
    holds_stop g.S.Store _ _ _ _ c.in_err-closed.field-0.0 c.from_residual.result is c.in_err-closed.ensures.holds
