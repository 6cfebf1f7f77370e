-- What the answer to a request of the office in a meeting reads.
use Rattle.std.specs.Prelude.{◌≡◌, Bool, true, false, not, List, [], filter, Option, Some, None, option_map, if◌then◌else◌}
use Rattle.desk_words.specs.Names.{same_name}
use Rattle.desk_words.specs.Office.{is_meeting}
use Rattle.desk_words.specs.ViewTypes.{Day, Moment, Number}
use Rattle.desk_words.specs.declared.office.MeetingLists.{MeetingLists}
use Rattle.desk_words.specs.declared.records.Meeting.{Meeting}
use Rattle.desk_words.specs.declared.records.Poll.{Poll}
use Rattle.desk_words.specs.declared.records.PresenceMark.{PresenceMark}
use Rattle.desk_words.specs.declared.request.OfficeRequest.{OfficeRequest}
use Rattle.desk_words.specs.declared.request.OfficeRequest.TheVariants.{LoadRegister, Presence, OpenMeeting, Adjourn, Order, Start, Close, Declare}
use Rattle.office_decisions.specs.OfficeRulings.{office_ruling}
use Rattle.party_views.specs.PublicRead.{counted, counted_up_to}
use Rattle.party_views.specs.RowsRead.{polls_on}
use Rattle.vote_rules.specs.TallyLaws.{casts_on}

-- a meeting with these polls, and nothing in place of its other lists
abbrev pub with_polls : Meeting → List Poll → MeetingLists
with_polls meeting polls = record {
  meeting = meeting;
  register = [];
  appointments = [];
  endings = [];
  authorities = [];
  presences = [];
  demands = [];
  polls = polls;
  casts = [];
}

-- a meeting, and the poll on a resolution
abbrev pub poll_alone : Number → MeetingLists → MeetingLists
poll_alone resolution m =
    with_polls (counted_up_to (Some resolution) m.meeting) (polls_on resolution m.polls)

-- what of a meeting decides whether a request is refused at once, and nothing in place of its other
-- lists: the poll on the resolution that the request is on, all polls for an adjournment (sections
-- 327 and 330), and else the meeting alone; of the resolutions it is asked whether that one is
-- among them, and none is read
abbrev pub first_read : OfficeRequest → MeetingLists → MeetingLists
first_read (Adjourn appointed) m = with_polls (counted_up_to None m.meeting) m.polls
first_read (Order new) m = poll_alone new.resolution m
first_read (Start resolution) m = poll_alone resolution m
first_read (Close resolution) m = poll_alone resolution m
first_read (Declare resolution) m = poll_alone resolution m
first_read other m = with_polls (counted_up_to None m.meeting) []

-- those of a meeting's lists that the answer to a request reads, and nothing in place of the
-- others: a register is compared with the one that is held (section 113); of the presences that of
-- the party is asked; a quorum is of the shares of those who are present (section 318), a demand of
-- the shares of those who make it, unless the chair orders the poll (section 321), and a count of
-- the shares that are voted on its resolution (section 284), whose poll alone is read; for a count
-- the resolutions are read, for an opening and an order how many there are
abbrev pub lists_read : OfficeRequest → MeetingLists → MeetingLists
lists_read (LoadRegister new) m = record (first_read (LoadRegister new) m) { register = m.register }
lists_read (Presence party) m = record (first_read (Presence party) m) {
  presences = filter (λ (mark : PresenceMark). same_name mark.party party) m.presences;
}
lists_read OpenMeeting m = record m {
  meeting = counted m.meeting;
  demands = [];
  polls = [];
  casts = [];
}
lists_read (Adjourn appointed) m = first_read (Adjourn appointed) m
lists_read (Order new) m =
    if new.chair
    then first_read (Order new) m
    else record m {
      meeting = counted m.meeting;
      presences = [];
      polls = polls_on new.resolution m.polls;
      casts = [];
    }
lists_read (Start resolution) m = first_read (Start resolution) m
lists_read (Close resolution) m = first_read (Close resolution) m
lists_read (Declare resolution) m = record m {
  presences = [];
  demands = [];
  polls = polls_on resolution m.polls;
  casts = casts_on resolution m.casts;
}

-- the closed days, where shares are counted by cutoffs, or it is asked whether a poll is late
-- (section 327)
abbrev pub days_read : OfficeRequest → List Day → List Day
days_read OpenMeeting closed = closed
days_read (Adjourn appointed) closed = closed
days_read (Order new) closed = if new.chair then [] else closed
days_read (Declare resolution) closed = closed
days_read other closed = []

-- the register is read
abbrev pub reads_register : OfficeRequest → Bool
reads_register (LoadRegister new) = true
reads_register OpenMeeting = true
reads_register (Order new) = not new.chair
reads_register (Declare resolution) = true
reads_register other = false

-- a request is ruled alike wherever what it reads of the closed days and of the meeting is the same
abbrev pub RulingsReadNoMore : Type 0
RulingsReadNoMore =
    (what : OfficeRequest) (now : Moment) (closed days : List Day)
    (found other : Option MeetingLists)
    → days_read what closed ≡ days_read what days
    → option_map (lists_read what) found ≡ option_map (lists_read what) other
    → office_ruling closed found now what ≡ office_ruling days other now what

-- what is read with the register is a meeting too
abbrev pub ReadMeetingsAreMeetings : Type 0
ReadMeetingsAreMeetings =
    (what : OfficeRequest) (m : MeetingLists)
    → reads_register what ≡ true
    → is_meeting m ≡ true
    → is_meeting (lists_read what m) ≡ true
