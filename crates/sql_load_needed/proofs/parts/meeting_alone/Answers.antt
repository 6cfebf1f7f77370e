use Rattle.std.proofs.Common.{[], None, ap, length, ◌∙◌}
use Rattle.std.specs.Prelude.{option_map}
use Rattle.desk_words.specs.declared.office.MeetingLists.{MeetingLists}
use Rattle.office_decisions.specs.ListsRead.{with_polls}
use Rattle.party_views.specs.PublicRead.{counted_up_to}
use Rattle.party_views.specs.Views.{meeting_at}
use Rattle.sql_load.specs.MeetingRecords.{are_on}
use Rattle.sql_load.proofs.StoredOfficeLemmas.{returned_so}
use Rattle.sql_load_needed.proofs.LoadedMeetingPartLemmas.{IsWith, IsWithPart}
use Rattle.sql_load_needed.proofs.parts.meeting_alone.Goals as goal

pub returns-clause-holds : goal.returns-clause-holds
returns-clause-holds g c =
    returned_so g.S.Store _ _ c.meeting_with.result (IsWith None c.args.meeting c.new.result) (IsWithPart None c.args.meeting (λ _. []))
    (λ office preserved lists is.
    is (λ m found. ap (are_on (length m.meeting.resolutions)) c.new.ensures)
    ∙ ap (λ polls. option_map (λ (m : MeetingLists). with_polls (counted_up_to None m.meeting) polls) (meeting_at office c.args.meeting)) c.new.ensures)
    c.meeting_with.ensures.holds
