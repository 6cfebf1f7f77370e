use Rattle.std.proofs.Common.{◌≡◌, List, ℕ, Some, ◌∙◌}
use Rattle.desk_words.specs.declared.office.OfficeLists.{OfficeLists}
use Rattle.desk_words.specs.declared.records.Poll.{Poll}
use Rattle.party_views.specs.RowsRead.{polls_on}
use Rattle.party_views.specs.Views.{meeting_at, polls_in}
use Rattle.sql_load.proofs.CountedRecordLemmas.{on_its_resolution}
use Rattle.sql_load.proofs.StoredOfficeLemmas.{returned_so, returned_then}
use Rattle.sql_load_needed.proofs.LoadedMeetingPartLemmas.{IsWith, IsWithPart, with_its}
use Rattle.sql_load_needed.proofs.parts.poll_alone.Goals as goal

-- these are those of the polls of the meeting that are on the resolution
abbrev AreOn : ℕ → List ℕ → OfficeLists → List Poll → Type 0
AreOn resolution id office polls = polls ≡ polls_on resolution (polls_in (meeting_at office id))

pub returns-clause-holds : goal.returns-clause-holds
returns-clause-holds g c =
    let id = c.args.meeting in
    let resolution = c.args.resolution in
    let polls = c.in_ok-polls.polls in
    returned_then g.S.Store _ _ _ polls c.meeting_with.result (AreOn resolution id) (IsWithPart (Some resolution) id (polls_on resolution)) c.in_ok-polls.ensures.holds
    (returned_so g.S.Store _ _ c.meeting_with.result (IsWith (Some resolution) id polls) (λ office lists. AreOn resolution id office polls → IsWithPart (Some resolution) id (polls_on resolution) office lists)
    (λ office preserved lists is are. is (on_its_resolution office id preserved resolution polls are) ∙ with_its (Some resolution) (polls_on resolution) (meeting_at office id) polls are) c.meeting_with.ensures.holds)
