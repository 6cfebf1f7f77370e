-- What an office decides it can make, and what it decides of what a party asks.
use Rattle.std.specs.Prelude.{◌≡◌, ℕ, Bool, false, List, length, Option, Some, option_map, is_some, IsSomeAnd, IsTrue}
use Rattle.desk_words.specs.Changes.{applied, can_make}
use Rattle.desk_words.specs.Office.{is_meeting, is_office}
use Rattle.desk_words.specs.Finding.{meeting_named}
use Rattle.desk_words.specs.ViewTypes.{Day, MeetingName, Moment, Party}
use Rattle.desk_words.specs.declared.caller.Caller.TheVariants as caller
use Rattle.desk_words.specs.declared.change.Change.{Change}
use Rattle.desk_words.specs.declared.office.OfficeLists.{OfficeLists}
use Rattle.desk_words.specs.declared.request.Call.{Call}
use Rattle.desk_words.specs.declared.office.MeetingLists.{MeetingLists}
use Rattle.desk_words.specs.declared.request.DeskRequest.{DeskRequest}
use Rattle.desk_words.specs.declared.request.OfficeRequest.{OfficeRequest}
use Rattle.desk_words.specs.declared.request.PartyRequest.{PartyRequest}
use Rattle.desk_words.specs.declared.request.Request.TheVariants as asked
use Rattle.party_views.specs.Public.{PublicRecord}
use Rattle.party_views.specs.RowsRead.{own_rows_read}
use Rattle.party_views.specs.PartyRows.{own_rows_in}
use Rattle.party_views.specs.Views.{meeting_at, public_of}
use Rattle.party_views.specs.declared.own_rows.OwnRows.{OwnRows}
use Rattle.office_decisions.specs.ListsRead.{days_read, lists_read, reads_register}
use Rattle.office_validation.specs.Validation.{in_order}
use Rattle.meeting_core.specs.Step.{decided}

-- the change that is decided in an office can be made there, where it leaves the lists of an office
abbrev pub DecidedChangesCanBeMade : Type 0
DecidedChangesCanBeMade =
    (office : OfficeLists) (call : Call) (change : Change)
    → (decided office call).change ≡ Some change
    → IsTrue (is_office office)
    → IsTrue (is_office (applied office change))
    → IsTrue (can_make office change)

-- a call of a party, which asks something in a meeting
abbrev pub party_call : Party → MeetingName → Moment → PartyRequest → Call
party_call party meeting now what = record {
  moment = now;
  caller = caller.Party party;
  request = asked.Party meeting what;
}

-- these are the meeting's public record, and those of the party's rows in it that the answer to a
-- request reads
pub record AreRead (office : OfficeLists) (party : Party) (meeting : MeetingName)
    (what : PartyRequest) (seen : PublicRecord) (rows : OwnRows) : Type 0 where
  pub public : seen ≡ public_of office meeting
  pub own : rows ≡ own_rows_read what (own_rows_in (meeting_at office meeting) party)

-- a call of the office, which asks something in a meeting
abbrev pub office_call : MeetingName → Moment → OfficeRequest → Call
office_call meeting now what = record {
  moment = now;
  caller = caller.Office;
  request = asked.Office meeting what;
}

-- a call of the office, which asks something of the whole desk
abbrev pub desk_call : Moment → DeskRequest → Call
desk_call now what = record { moment = now; caller = caller.Office; request = asked.Desk what }

-- these are those of the office's closed days and of the meeting's lists that the answer to a
-- request of the office reads
pub record AreListsRead (office : OfficeLists) (meeting : MeetingName) (what : OfficeRequest)
    (days : List Day) (found : Option MeetingLists) : Type 0 where
  pub closed : days ≡ days_read what office.closed
  pub lists : found ≡ option_map (lists_read what) (meeting_at office meeting)

-- the request reads the register, and what was read are no meeting's lists, in whatever order the
-- register is
abbrev pub IsNoMeeting : OfficeRequest → Option MeetingLists → Type 0
IsNoMeeting what found =
    IsTrue (reads_register what) × IsSomeAnd found (λ m. is_meeting (in_order m) ≡ false)

-- it is known whether a meeting of the office has that name, and how many meetings it has
pub record AreMeetingsRead (office : OfficeLists) (meeting : MeetingName) (is_named : Bool)
    (count : ℕ) : Type 0 where
  pub named : is_named ≡ is_some (meeting_named office.meetings meeting)
  pub held : count ≡ length office.meetings
