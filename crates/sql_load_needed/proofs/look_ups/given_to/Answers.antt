use Rattle.std.proofs.Common.{ap, filter, map, ◌∙◌}
use Rattle.party_views.specs.Views.{meeting_at}
use Rattle.party_views.proofs.OwnLemmas.{filter-swap}
use Rattle.proxy_rules.specs.Holdings.{claim_of, is_given_by}
use Rattle.proxy_rules.specs.Parties.{names}
use Rattle.row_source.specs.LookUps.{appointments_in}
use Rattle.sql_load.proofs.StoredOfficeLemmas.{holds_so}
use Rattle.sql_load_needed.proofs.look_ups.given_to.Goals as goal

pub returns-clause-holds : goal.returns-clause-holds
returns-clause-holds g c =
    holds_so g.S.Store _ _ _ _ c.in_ok-given.given _ c.in_ok-given.ensures.holds
    (λ office preserved given.
    let received = c.naming_among.ensures ∙ ap (filter (names c.args.party)) given ∙ filter-swap (names c.args.party) (is_given_by c.args.member) (appointments_in (meeting_at office c.args.meeting)) in
    let claims = c.from_vec.ensures ∙ c.in_ok-claims.ensures ∙ ap (map claim_of) (c.as_slice.ensures ∙ given) in
    λ i. record { received = received i; claims = claims i })
