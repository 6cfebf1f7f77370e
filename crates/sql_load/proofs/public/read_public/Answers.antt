use Rattle.std.proofs.Common.{◌≡◌, Err, rules}
use Rattle.sql_load.proofs.StoredOfficeLemmas.{holds_after, holds_both, holds_so, holds_stop}
use Rattle.sql_load.proofs.public.read_public.Goals as goal

pub returns-in_err-polls-clause-holds : goal.returns-in_err-polls-clause-holds
returns-in_err-polls-clause-holds g c =
    let is : c.from_residual-in_err-polls.result ≡ Err c.in_err-polls.field-0.0 = search rules in
    holds_after g.S.Store _ _ _ c.in_ok-found.found _ _ _ (holds_both g.S.Store _ _ _ c.in_ok-closed.closed c.in_ok-found.found _ _ c.in_ok-closed.ensures.holds c.in_ok-found.ensures.holds)
    (holds_stop g.S.Store _ _ _ _ c.in_err-polls.field-0.0 c.from_residual-in_err-polls.result is c.in_err-polls.ensures.holds)

pub returns-clause-holds : goal.returns-clause-holds
returns-clause-holds g c =
    holds_so g.S.Store _ _ _ _ c.in_ok-polls.polls _
    (holds_both g.S.Store _ _ _ c.in_ok-found.found c.in_ok-polls.polls _ _ (holds_both g.S.Store _ _ _ c.in_ok-closed.closed c.in_ok-found.found _ _ c.in_ok-closed.ensures.holds c.in_ok-found.ensures.holds) c.in_ok-polls.ensures.holds)
    (λ office preserved p. λ i. record { closed = p.0.0 i; meeting = p.0.1 i; polls = p.1 i })
