use Rattle.std.proofs.Common.{map, ap, ◌∙◌}
use Rattle.proxy_rules.specs.Holdings.{claim_of}
use Rattle.sql_load.proofs.StoredOfficeLemmas.{holds_so}
use Rattle.sql_load_needed.proofs.look_ups.claims_by.Goals as goal

pub returns-clause-holds : goal.returns-clause-holds
returns-clause-holds g c =
    holds_so g.S.Store _ _ _ _ c.in_ok-given.given _ c.in_ok-given.ensures.holds
    (λ office preserved given. c.from_vec.ensures ∙ c.in_ok-claims.ensures ∙ ap (map claim_of) (c.as_slice.ensures ∙ given))
