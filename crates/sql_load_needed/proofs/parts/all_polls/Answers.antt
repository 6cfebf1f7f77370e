use Rattle.std.proofs.Common.{◌≡◌, List, ℕ, None, ◌∙◌}
use Rattle.desk_words.specs.declared.office.OfficeLists.{OfficeLists}
use Rattle.desk_words.specs.declared.records.Poll.{Poll}
use Rattle.party_views.specs.Views.{meeting_at, polls_in}
use Rattle.sql_load.proofs.CountedRecordLemmas.{on_resolutions}
use Rattle.sql_load.proofs.StoredOfficeLemmas.{returned_so, returned_then}
use Rattle.sql_load_needed.proofs.LoadedMeetingPartLemmas.{IsWith, IsWithPart, with_its}
use Rattle.sql_load_needed.proofs.parts.all_polls.Goals as goal

-- these are the polls of the meeting
abbrev ArePolls : List ℕ → OfficeLists → List Poll → Type 0
ArePolls id office polls = polls ≡ polls_in (meeting_at office id)

pub returns-clause-holds : goal.returns-clause-holds
returns-clause-holds g c =
    let id = c.args.meeting in
    let polls = c.in_ok-polls.polls in
    returned_then g.S.Store _ _ _ polls c.meeting_with.result (ArePolls id) (IsWithPart None id (λ l. l)) c.in_ok-polls.ensures.holds
    (returned_so g.S.Store _ _ c.meeting_with.result (IsWith None id polls) (λ office lists. ArePolls id office polls → IsWithPart None id (λ l. l) office lists)
    (λ office preserved lists is are. is (on_resolutions office id preserved polls are) ∙ with_its None (λ l. l) (meeting_at office id) polls are) c.meeting_with.ensures.holds)
