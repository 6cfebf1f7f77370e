-- The empty office, what a change leaves, and which changes an office can make.
use Rattle.std.specs.Prelude.{Bool, true, false, ◌&&◌, ◌==◌, List, [], ◌∷◌, ◌++◌, Option, Some, None}
use Rattle.std.specs.Prelude.{is_some}
use Rattle.seq.specs.Sorting.{insert_by}
use Rattle.seq.specs.Edits.{change_first}
use Rattle.vocabulary.specs.Names.{same_name}
use Rattle.desk_words.specs.Finding.{meeting_named}
use Rattle.desk_words.specs.Office.{is_office, poll_before}
use Rattle.desk_words.specs.ViewTypes.{MeetingName, Number}
use Rattle.desk_words.specs.Sessions.{adjourned_to, open_last}
use Rattle.desk_words.specs.declared.change.Change.{Change}
use Rattle.desk_words.specs.declared.change.Change.TheVariants.{AddMeeting, SetClosedDays, SetKeys, InMeeting}
use Rattle.desk_words.specs.declared.change.Entry.{Entry}
use Rattle.desk_words.specs.declared.change.Entry.TheVariants as entry
use Rattle.desk_words.specs.declared.change.MeetingChange.{MeetingChange}
use Rattle.desk_words.specs.declared.change.MeetingChange.TheVariants.{SetRegister, SetOpened, AddSession, AddPoll, SetPoll, Enter}
use Rattle.desk_words.specs.declared.change.PollChange.{PollChange}
use Rattle.desk_words.specs.declared.change.PollChange.TheVariants.{Started, Closed, Declared}
use Rattle.desk_words.specs.declared.office.OfficeLists.{OfficeLists}
use Rattle.desk_words.specs.declared.office.MeetingLists.{MeetingLists}
use Rattle.desk_words.specs.declared.records.Meeting.{Meeting}
use Rattle.desk_words.specs.declared.records.Poll.{Poll}

-- the office that holds nothing
abbrev pub empty_office : OfficeLists
empty_office = record { keys = []; closed = []; meetings = [] }

-- a meeting with no lists
abbrev pub new_lists : Meeting → MeetingLists
new_lists meeting = record {
  meeting = meeting;
  register = [];
  appointments = [];
  endings = [];
  authorities = [];
  presences = [];
  demands = [];
  polls = [];
  casts = [];
}

-- a meeting with something entered into its lists, behind what was received before
abbrev pub entered : Entry → MeetingLists → MeetingLists
entered (entry.Appointment appointment) m = record m {
  appointments = m.appointments ++ appointment ∷ [];
}
entered (entry.Ending ending) m = record m { endings = m.endings ++ ending ∷ [] }
entered (entry.Authority authority) m = record m { authorities = m.authorities ++ authority ∷ [] }
entered (entry.Presence presence) m = record m { presences = m.presences ++ presence ∷ [] }
entered (entry.Demand demand) m = record m { demands = m.demands ++ demand ∷ [] }
entered (entry.Cast cast) m = record m { casts = m.casts ++ cast ∷ [] }

-- a poll that has come further
abbrev pub advanced : PollChange → Poll → Poll
advanced (Started moment) p = record p { started = Some moment }
advanced (Closed moment) p = record p { closed = Some moment }
advanced (Declared tally) p = record p { declared = Some tally }

-- a meeting with the poll on a resolution changed
abbrev pub change_poll : (Poll → Poll) → Number → MeetingLists → MeetingLists
change_poll f resolution m = record m {
  polls = change_first (λ (p : Poll). p.resolution == resolution) f m.polls;
}

-- a meeting after a change
abbrev pub changed : MeetingChange → MeetingLists → MeetingLists
changed (SetRegister rows) m = record m {
  meeting = record m.meeting { loaded = true };
  register = rows;
}
changed (SetOpened moment) m = record m { meeting = open_last moment m.meeting }
changed (AddSession moment) m = record m { meeting = adjourned_to moment m.meeting }
changed (AddPoll poll) m = record m { polls = insert_by poll_before poll m.polls }
changed (SetPoll resolution change) m = change_poll (advanced change) resolution m
changed (Enter entry) m = entered entry m

-- the meetings, with that of the name changed
abbrev pub change_at : (MeetingLists → MeetingLists) → MeetingName → List MeetingLists
    → List MeetingLists
change_at f id meetings = change_first (λ m. same_name m.meeting.id id) f meetings

-- the office with the meeting of a name changed
abbrev pub change_meeting : (MeetingLists → MeetingLists) → MeetingName → OfficeLists → OfficeLists
change_meeting f id office = record office { meetings = change_at f id office.meetings }

-- the office after a change
abbrev pub applied : OfficeLists → Change → OfficeLists
applied office (AddMeeting meeting) = record office {
  meetings = office.meetings ++ new_lists meeting ∷ [];
}
applied office (SetClosedDays days) = record office { closed = days }
applied office (SetKeys rows) = record office { keys = rows }
applied office (InMeeting id change) = change_meeting (changed change) id office

-- the office after a change, if there is one
abbrev pub applied_if_any : OfficeLists → Option Change → OfficeLists
applied_if_any office None = office
applied_if_any office (Some change) = applied office change

-- the meeting in which something is changed stands
abbrev pub is_placed : OfficeLists → Change → Bool
is_placed office (InMeeting id what) = is_some (meeting_named office.meetings id)
is_placed office other = true

-- a change that an office can make: in a meeting that stands, and it leaves the lists of an office
abbrev pub can_make : OfficeLists → Change → Bool
can_make office change =
    is_office office && is_placed office change && is_office (applied office change)

-- in a meeting, a change that sets fields, and adds nothing
abbrev pub sets_in_meeting : MeetingChange → Bool
sets_in_meeting (AddSession moment) = false
sets_in_meeting (AddPoll poll) = false
sets_in_meeting (Enter entry) = false
sets_in_meeting other = true

-- a change that sets fields, and adds nothing
abbrev pub sets_fields : Change → Bool
sets_fields (AddMeeting meeting) = false
sets_fields (InMeeting id change) = sets_in_meeting change
sets_fields other = true
