-- What each table holds.
use Rattle.std.specs.Prelude.{ℕ, Bool, true, ◌&&◌, ◌==◌, List, [], ◌∷◌, Some, if◌then◌else◌}
use Rattle.vocabulary.specs.Names.{same_name}
use Rattle.desk_words.specs.declared.records.Tally.{Tally}
use Rattle.sql_schema.specs.declared.poll_name.PollName.{PollName}
use Rattle.desk_words.specs.declared.caller.KeyRow.{KeyRow}
use Rattle.desk_words.specs.declared.records.Appointment.{Appointment}
use Rattle.desk_words.specs.declared.records.Authority.{Authority}
use Rattle.desk_words.specs.declared.records.CastMark.{CastMark}
use Rattle.desk_words.specs.declared.records.DemandMark.{DemandMark}
use Rattle.desk_words.specs.declared.records.Ending.{Ending}
use Rattle.desk_words.specs.declared.records.Meeting.{Meeting}
use Rattle.desk_words.specs.declared.records.Poll.{Poll}
use Rattle.desk_words.specs.declared.records.PresenceMark.{PresenceMark}
use Rattle.desk_words.specs.declared.records.RegisterRow.{RegisterRow}
use Rattle.desk_words.specs.declared.records.Resolution.{Resolution}
use Rattle.desk_words.specs.declared.records.Session.{Session}
use Rattle.sql_rows.specs.declared.stored_records.InMeeting.{InMeeting}
use Rattle.sql_rows.specs.declared.stored_records.MeetingRow.{MeetingRow}
use Rattle.sql_rows.specs.declared.stored_records.Numbered.{Numbered}
use Rattle.sql_rows.specs.declared.stored_records.Version.{Version}
use Rattle.sql_rows.specs.Marks.{presence_in, demand_mark_in, poll_in, cast_in, presence_before_sessions_in, demand_before_sessions_in, poll_before_sessions_in}
use Rattle.sql_rows.specs.Meetings.{meeting_in, session_in, resolution_in, holding_in}
use Rattle.sql_rows.specs.DeskRows.{version_in, key_row_in, closed_in}
use Rattle.sql_rows.specs.AppointmentRows.{appointment_in, ending_in, authority_in}
use Rattle.sql_schema.specs.Statements.{TableOf}

-- the version of the tables
abbrev pub desk : TableOf Version
desk = record { number = 0; columns = 0 ∷ 2 ∷ []; means = version_in }

-- the keys of the callers
abbrev pub keys : TableOf KeyRow
keys = record { number = 1; columns = 1 ∷ 2 ∷ []; means = key_row_in }

-- the closed days
abbrev pub closed : TableOf ℕ
closed = record { number = 4; columns = 0 ∷ []; means = closed_in }

-- the meetings with their first sessions, in the order in which they were called
abbrev pub meetings : TableOf MeetingRow
meetings = record { number = 5; columns = 2 ∷ 3 ∷ 4 ∷ 5 ∷ 6 ∷ 7 ∷ 8 ∷ 9 ∷ []; means = meeting_in }

-- the further sessions of the meetings
abbrev pub sessions : TableOf (InMeeting (Numbered Session))
sessions = record { number = 29; columns = 1 ∷ 2 ∷ 3 ∷ 4 ∷ []; means = session_in }

-- the resolutions of the meetings
abbrev pub resolutions : TableOf (InMeeting (Numbered Resolution))
resolutions = record { number = 8; columns = 1 ∷ 2 ∷ 3 ∷ 4 ∷ []; means = resolution_in }

-- the rows of the registers
abbrev pub register : TableOf (InMeeting RegisterRow)
register = record { number = 10; columns = 1 ∷ 2 ∷ 3 ∷ 4 ∷ 5 ∷ 6 ∷ []; means = holding_in }

-- the appointments, in order of receipt
abbrev pub appointments : TableOf (InMeeting Appointment)
appointments = record {
  number = 12;
  columns = 2 ∷ 3 ∷ 4 ∷ 5 ∷ 6 ∷ 7 ∷ 8 ∷ 9 ∷ [];
  means = appointment_in;
}

-- the endings, in order of receipt
abbrev pub endings : TableOf (InMeeting Ending)
endings = record { number = 14; columns = 2 ∷ 3 ∷ 4 ∷ 5 ∷ []; means = ending_in }

-- the authorities, in order of receipt
abbrev pub authorities : TableOf (InMeeting Authority)
authorities = record { number = 16; columns = 2 ∷ 3 ∷ 4 ∷ 5 ∷ []; means = authority_in }

-- the presences, in order of receipt
abbrev pub presences : TableOf (InMeeting PresenceMark)
presences = record { number = 31; columns = 2 ∷ 3 ∷ 4 ∷ 5 ∷ []; means = presence_in }

-- the demands, in order of receipt
abbrev pub demands : TableOf (InMeeting DemandMark)
demands = record { number = 33; columns = 2 ∷ 3 ∷ 4 ∷ 5 ∷ 6 ∷ []; means = demand_mark_in }

-- the polls
abbrev pub polls : TableOf (InMeeting Poll)
polls = record {
  number = 35;
  columns = 1 ∷ 2 ∷ 3 ∷ 4 ∷ 5 ∷ 6 ∷ 7 ∷ 8 ∷ 9 ∷ 10 ∷ 11 ∷ 12 ∷ [];
  means = poll_in;
}

-- the votes, in order of receipt
abbrev pub casts : TableOf (InMeeting CastMark)
casts = record { number = 24; columns = 2 ∷ 3 ∷ 4 ∷ 5 ∷ 6 ∷ 7 ∷ 8 ∷ 9 ∷ 10 ∷ []; means = cast_in }

-- ---- the tables of version 1 that version 2 leaves empty

-- the presences, in order of receipt
abbrev pub presences_before_sessions : TableOf (InMeeting PresenceMark)
presences_before_sessions =
    record { number = 18; columns = 2 ∷ 3 ∷ 4 ∷ []; means = presence_before_sessions_in }

-- the demands, in order of receipt
abbrev pub demands_before_sessions : TableOf (InMeeting DemandMark)
demands_before_sessions =
    record { number = 20; columns = 2 ∷ 3 ∷ 4 ∷ 5 ∷ []; means = demand_before_sessions_in }

-- the polls
abbrev pub polls_before_sessions : TableOf (InMeeting Poll)
polls_before_sessions = record {
  number = 22;
  columns = 1 ∷ 2 ∷ 3 ∷ 4 ∷ 5 ∷ 6 ∷ 7 ∷ 8 ∷ 9 ∷ 10 ∷ 11 ∷ [];
  means = poll_before_sessions_in;
}

-- ---- changes of records

-- a meeting with its first session and without its resolutions, as its row keeps it
abbrev pub without_resolutions : Meeting → MeetingRow
without_resolutions m = record {
  id = m.id;
  company = m.company;
  kind = m.kind;
  given = m.given;
  appointed = m.first.appointed;
  record_moment = m.record_moment;
  loaded = m.loaded;
  opened = m.first.opened;
}

-- the meeting of a name with its register loaded, and the others as they are
abbrev pub loaded_at : List ℕ → MeetingRow → MeetingRow
loaded_at id m = if same_name m.id id then record m { loaded = true } else m

-- the meeting of a name with its first session opened at a moment, and the others as they are
abbrev pub first_opened_at : List ℕ → ℕ → MeetingRow → MeetingRow
first_opened_at id moment m = if same_name m.id id then record m { opened = Some moment } else m

-- the further session of a number in the meeting of a name
abbrev pub is_session_named : List ℕ → ℕ → InMeeting (Numbered Session) → Bool
is_session_named id number s = same_name s.meeting id && (s.item.number == number)

-- a session opened at a moment
abbrev pub numbered_opened_at : ℕ → Numbered Session → Numbered Session
numbered_opened_at moment s = record s { item = record s.item { opened = Some moment } }

-- the further session of a number in the meeting of a name opened at a moment, and the others as
-- they are
abbrev pub session_opened_at : List ℕ → ℕ → ℕ → InMeeting (Numbered Session)
    → InMeeting (Numbered Session)
session_opened_at id number moment s =
    if is_session_named id number s then record s { item = numbered_opened_at moment s.item } else s

-- the poll of a name: that on a resolution of a meeting
abbrev pub is_poll_named : PollName → InMeeting Poll → Bool
is_poll_named name p = same_name p.meeting name.meeting && (p.item.resolution == name.resolution)

-- the poll of a name started at a moment, and the others as they are
abbrev pub started_at : PollName → ℕ → InMeeting Poll → InMeeting Poll
started_at name moment p =
    if is_poll_named name p then record p { item = record p.item { started = Some moment } } else p

-- the poll of a name closed at a moment, and the others as they are
abbrev pub closed_at : PollName → ℕ → InMeeting Poll → InMeeting Poll
closed_at name moment p =
    if is_poll_named name p then record p { item = record p.item { closed = Some moment } } else p

-- the poll of a name with a count declared, and the others as they are
abbrev pub declared_with : PollName → Tally → InMeeting Poll → InMeeting Poll
declared_with name tally p =
    if is_poll_named name p then record p { item = record p.item { declared = Some tally } } else p
