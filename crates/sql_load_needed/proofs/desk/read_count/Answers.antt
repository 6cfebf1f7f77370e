use Rattle.std.proofs.Common.{◌≡◌, Err, rules}
use Rattle.sql_load.proofs.StoredOfficeLemmas.{holds_after, holds_both, holds_so, holds_stop}
use Rattle.sql_load_needed.proofs.desk.read_count.Goals as goal

pub returns-in_err-held-clause-holds : goal.returns-in_err-held-clause-holds
returns-in_err-held-clause-holds g c =
    let is : c.from_residual-in_err-held.result ≡ Err c.in_err-held.field-0.0 = search rules in
    holds_after g.S.Store _ _ _ c.in_ok-is_named.is_named _ _ _ c.in_ok-is_named.ensures.holds
    (holds_stop g.S.Store _ _ _ _ c.in_err-held.field-0.0 c.from_residual-in_err-held.result is c.in_err-held.ensures.holds)

pub returns-clause-holds : goal.returns-clause-holds
returns-clause-holds g c =
    holds_so g.S.Store _ _ _ _ c.in_ok-held.held _
    (holds_both g.S.Store _ _ _ c.in_ok-is_named.is_named c.in_ok-held.held _ _ c.in_ok-is_named.ensures.holds c.in_ok-held.ensures.holds)
    (λ office preserved p. λ i. record { is_named = p.0 i; held = p.1 i })
