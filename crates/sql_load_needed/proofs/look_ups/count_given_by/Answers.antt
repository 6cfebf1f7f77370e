use Rattle.std.proofs.Common.{length, ap, ◌∙◌}
use Rattle.sql_load.proofs.StoredOfficeLemmas.{holds_so}
use Rattle.sql_load_needed.proofs.look_ups.count_given_by.Goals as goal

pub returns-clause-holds : goal.returns-clause-holds
returns-clause-holds g c =
    holds_so g.S.Store _ _ _ _ c.in_ok-given.given _ c.in_ok-given.ensures.holds (λ office preserved given. c.len.ensures ∙ ap length given)
