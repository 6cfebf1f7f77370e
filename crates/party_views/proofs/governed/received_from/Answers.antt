use Rattle.std.proofs.Common.{ap, ◌∙◌}
use Rattle.std.specs.Prelude.{List, map}
use Rattle.desk_words.specs.declared.records.Appointment.{Appointment}
use Rattle.party_views.specs.RowsRead.{polls_if_on}
use Rattle.party_views.specs.ViewsByMember.{received_with}
use Rattle.party_views.proofs.ViewPreservedLemmas.{received-alike}
use Rattle.party_views.proofs.governed.received_from.Goals as goal

pub returns : goal.returns
returns c =
    let a = c.args in
    let sessions = c.in_ok-sessions.sessions in
    let late = c.as_slice.ensures.value ∙ c.in_ok-late.ensures in
    c.from_vec.ensures
    ∙ c.in_ok-all.ensures
    ∙ ap (λ (received : List Appointment). map (received_with a.members.now sessions c.as_slice.result.now) received) c.into_vec.ensures
    ∙ received-alike a.members.now a.closed.now a.meeting.now (polls_if_on a.polls.now.on a.polls.now.all.now) a.now sessions c.as_slice.result.now a.received c.in_ok-sessions.ensures late
