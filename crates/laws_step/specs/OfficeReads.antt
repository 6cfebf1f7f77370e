-- What the office's calls read is enough: a call is decided alike in two offices that agree on it.
use Rattle.std.specs.Prelude.{◌≡◌, length, option_map, is_some}
use Rattle.desk_words.specs.Finding.{meeting_named}
use Rattle.desk_words.specs.ViewTypes.{MeetingName, Moment}
use Rattle.desk_words.specs.declared.office.MeetingLists.{MeetingLists}
use Rattle.desk_words.specs.declared.office.OfficeLists.{OfficeLists}
use Rattle.desk_words.specs.declared.request.DeskRequest.{DeskRequest}
use Rattle.desk_words.specs.declared.request.DeskRequest.TheVariants.{CallMeeting, ClosedDays, Keys}
use Rattle.desk_words.specs.declared.request.OfficeRequest.{OfficeRequest}
use Rattle.party_views.specs.Views.{meeting_at}
use Rattle.office_decisions.specs.ListsRead.{days_read}
use Rattle.meeting_core.specs.Decisions.{desk_call, office_call}
use Rattle.meeting_core.specs.Step.{decided}

-- what keeps of a meeting's lists those that a request of the office reads
abbrev pub ListsReading : Type 0
ListsReading = OfficeRequest → MeetingLists → MeetingLists

-- two offices agree on what is read of the meeting in which the office asks, which neither may
-- have, and on those of the closed days that the answer reads
pub record AgreeIn (reading : ListsReading) (meeting : MeetingName) (what : OfficeRequest)
    (one other : OfficeLists) : Type 0 where
  pub closed : days_read what one.closed ≡ days_read what other.closed
  pub lists : option_map (reading what) (meeting_at one meeting)
      ≡ option_map (reading what) (meeting_at other meeting)

-- what the office asks in a meeting is decided alike wherever what is read of it is the same,
-- whatever else there is of that meeting and of all others
abbrev pub ListsReadAreEnough : ListsReading → Type 0
ListsReadAreEnough reading =
    (one other : OfficeLists) (meeting : MeetingName) (now : Moment) (what : OfficeRequest)
    → AgreeIn reading meeting what one other
    → decided one (office_call meeting now what) ≡ decided other (office_call meeting now what)

-- two offices agree on what is read for what the office asks of the whole desk: whether a meeting
-- has the name and how many meetings there are (section 302), the closed days, or the keys
abbrev pub AgreeOn : DeskRequest → OfficeLists → OfficeLists → Type 0
AgreeOn (CallMeeting new) one other =
    (is_some (meeting_named one.meetings new.meeting)
    ≡ is_some (meeting_named other.meetings new.meeting))
    × (length one.meetings ≡ length other.meetings)
AgreeOn (ClosedDays days) one other = one.closed ≡ other.closed
AgreeOn (Keys rows) one other = one.keys ≡ other.keys

-- and it is decided alike there
abbrev pub DeskReadIsEnough : Type 0
DeskReadIsEnough =
    (one other : OfficeLists) (now : Moment) (what : DeskRequest) → AgreeOn what one other
    → decided one (desk_call now what) ≡ decided other (desk_call now what)
