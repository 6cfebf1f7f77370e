use Rattle.std.proofs.Common.{◌≡◌, Err, ap, ◌∙◌, rules}
use Rattle.desk_words.specs.declared.office.MeetingLists.{MeetingLists}
use Rattle.party_views.specs.Views.{meeting_at}
use Rattle.row_source.specs.LookUps.{demands_in}
use Rattle.sql_load_needed.specs.MeetingParts.{with_shares_of}
use Rattle.sql_load.proofs.StoredOfficeLemmas.{holds_after, holds_both, holds_so, holds_stop}
use Rattle.sql_load_needed.proofs.needed_lists.for_demand.Goals as goal

pub returns-in_err-add_count-clause-holds : goal.returns-in_err-add_count-clause-holds
returns-in_err-add_count-clause-holds g c =
    let is : c.from_residual-in_err-add_count.result ≡ Err c.in_err-add_count.field-0.0 = search rules in
    holds_after g.S.Store _ _ _ c.in_ok-closed.closed _ _ _ c.in_ok-closed.ensures.holds
    (holds_stop g.S.Store _ _ _ _ c.in_err-add_count.field-0.0 c.from_residual-in_err-add_count.result is c.in_err-add_count.ensures.holds)

pub returns-in_err-add_shares-clause-holds : goal.returns-in_err-add_shares-clause-holds
returns-in_err-add_shares-clause-holds g c =
    let is : c.from_residual-in_err-add_shares.result ≡ Err c.in_err-add_shares.field-0.0 = search rules in
    let both = holds_both g.S.Store _ _ _ c.in_ok-closed.closed c.in_ok-add_count.field-0 _ _ c.in_ok-closed.ensures.holds c.in_ok-add_count.ensures.holds in
    holds_after g.S.Store _ _ _ c.in_ok-add_count.field-0 _ _ _ both
    (holds_stop g.S.Store _ _ _ _ c.in_err-add_shares.field-0.0 c.from_residual-in_err-add_shares.result is c.in_err-add_shares.ensures.holds)

pub returns-in_err-add_demands-clause-holds : goal.returns-in_err-add_demands-clause-holds
returns-in_err-add_demands-clause-holds g c =
    let is : c.from_residual-in_err-add_demands.result ≡ Err c.in_err-add_demands.field-0.0 = search rules in
    let both = holds_both g.S.Store _ _ _ c.in_ok-closed.closed c.in_ok-add_count.field-0 _ _ c.in_ok-closed.ensures.holds c.in_ok-add_count.ensures.holds in
    let shares = holds_both g.S.Store _ _ _ c.in_ok-add_count.field-0 c.in_ok-add_shares.field-0 _ _ both c.in_ok-add_shares.ensures.holds in
    holds_after g.S.Store _ _ _ c.in_ok-add_shares.field-0 _ _ _ shares
    (holds_stop g.S.Store _ _ _ _ c.in_err-add_demands.field-0.0 c.from_residual-in_err-add_demands.result is c.in_err-add_demands.ensures.holds)

pub returns-clause-holds : goal.returns-clause-holds
returns-clause-holds g c =
    let both = holds_both g.S.Store _ _ _ c.in_ok-closed.closed c.in_ok-add_count.field-0 _ _ c.in_ok-closed.ensures.holds c.in_ok-add_count.ensures.holds in
    let shares = holds_both g.S.Store _ _ _ c.in_ok-add_count.field-0 c.in_ok-add_shares.field-0 _ _ both c.in_ok-add_shares.ensures.holds in
    holds_so g.S.Store _ _ _ _ c.in_ok-add_demands.field-0 _
    (holds_both g.S.Store _ _ _ c.in_ok-add_shares.field-0 c.in_ok-add_demands.field-0 _ _ shares c.in_ok-add_demands.ensures.holds)
    (λ office preserved p.
    let found = meeting_at office c.args.meeting in
    (p.0.0.0, p.1 ∙ ap (λ (m : MeetingLists). record m { demands = demands_in found }) (p.0.1 ∙ ap (with_shares_of found) p.0.0.1)))
