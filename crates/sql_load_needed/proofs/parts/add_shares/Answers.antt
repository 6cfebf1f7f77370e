use Rattle.std.proofs.Common.{◌≡◌, Err, ap, ◌∙◌, rules}
use Rattle.desk_words.specs.declared.office.MeetingLists.{MeetingLists}
use Rattle.party_views.specs.Views.{meeting_at}
use Rattle.row_source.specs.LookUps.{appointments_in, authorities_in, endings_in}
use Rattle.sql_load.proofs.StoredOfficeLemmas.{holds_after, holds_both, holds_so, holds_stop}
use Rattle.sql_load_needed.proofs.parts.add_shares.Goals as goal

pub returns-in_err-add_appointments-clause-holds : goal.returns-in_err-add_appointments-clause-holds
returns-in_err-add_appointments-clause-holds g c =
    let is : c.from_residual-in_err-add_appointments.result ≡ Err c.in_err-add_appointments.field-0.0 = search rules in
    holds_after g.S.Store _ _ _ c.in_ok-add_register.field-0 _ _ _ (c.in_ok-add_register.ensures.holds)
    (holds_stop g.S.Store _ _ _ _ c.in_err-add_appointments.field-0.0 c.from_residual-in_err-add_appointments.result is c.in_err-add_appointments.ensures.holds)

pub returns-in_err-add_endings-clause-holds : goal.returns-in_err-add_endings-clause-holds
returns-in_err-add_endings-clause-holds g c =
    let is : c.from_residual-in_err-add_endings.result ≡ Err c.in_err-add_endings.field-0.0 = search rules in
    holds_after g.S.Store _ _ _ c.in_ok-add_appointments.field-0 _ _ _ (holds_both g.S.Store _ _ _ c.in_ok-add_register.field-0 c.in_ok-add_appointments.field-0 _ _ (c.in_ok-add_register.ensures.holds) (c.in_ok-add_appointments.ensures.holds))
    (holds_stop g.S.Store _ _ _ _ c.in_err-add_endings.field-0.0 c.from_residual-in_err-add_endings.result is c.in_err-add_endings.ensures.holds)

pub returns-in_err-add_authorities-clause-holds : goal.returns-in_err-add_authorities-clause-holds
returns-in_err-add_authorities-clause-holds g c =
    let is : c.from_residual-in_err-add_authorities.result ≡ Err c.in_err-add_authorities.field-0.0 = search rules in
    holds_after g.S.Store _ _ _ c.in_ok-add_endings.field-0 _ _ _ (holds_both g.S.Store _ _ _ c.in_ok-add_appointments.field-0 c.in_ok-add_endings.field-0 _ _ (holds_both g.S.Store _ _ _ c.in_ok-add_register.field-0 c.in_ok-add_appointments.field-0 _ _ (c.in_ok-add_register.ensures.holds) (c.in_ok-add_appointments.ensures.holds)) (c.in_ok-add_endings.ensures.holds))
    (holds_stop g.S.Store _ _ _ _ c.in_err-add_authorities.field-0.0 c.from_residual-in_err-add_authorities.result is c.in_err-add_authorities.ensures.holds)

pub returns-clause-holds : goal.returns-clause-holds
returns-clause-holds g c =
    holds_so g.S.Store _ _ _ _ c.in_ok-add_authorities.field-0 _
    (holds_both g.S.Store _ _ _ c.in_ok-add_endings.field-0 c.in_ok-add_authorities.field-0 _ _ (holds_both g.S.Store _ _ _ c.in_ok-add_appointments.field-0 c.in_ok-add_endings.field-0 _ _ (holds_both g.S.Store _ _ _ c.in_ok-add_register.field-0 c.in_ok-add_appointments.field-0 _ _ (c.in_ok-add_register.ensures.holds) (c.in_ok-add_appointments.ensures.holds)) (c.in_ok-add_endings.ensures.holds)) (c.in_ok-add_authorities.ensures.holds))
    (λ office preserved p.
    let found = meeting_at office c.args.meeting in
    p.1 ∙ ap (λ (m : MeetingLists). record m { authorities = authorities_in found })
    (p.0.1 ∙ ap (λ (m : MeetingLists). record m { endings = endings_in found })
    (p.0.0.1 ∙ ap (λ (m : MeetingLists). record m { appointments = appointments_in found }) p.0.0.0)))
