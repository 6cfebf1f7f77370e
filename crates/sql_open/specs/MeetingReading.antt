-- The office that the tables hold, read meeting by meeting.
use Rattle.std.specs.Prelude.{false, Bool, ◌&&◌, ℕ, List, [], ◌∷◌, filter, map, slice_index, Option, Some}
use Rattle.std.specs.Option.{option_map_or}
use Rattle.seq.specs.Ordered.{ascends_by}
use Rattle.seq.specs.Sorting.{sort_by}
use Rattle.sqlite.specs.Order.{Row, column}
use Rattle.sqlite.specs.Tree.{Trees}
use Rattle.vocabulary.specs.Names.{meeting_of, same_name}
use Rattle.vocabulary.specs.OptionSteps.{◌>>=◌, guard}
use Rattle.desk_words.specs.Office.{are_rows, poll_before}
use Rattle.desk_words.specs.Registers.{member_before}
use Rattle.desk_words.specs.SortedLists.{are_resolutions, caller_before, day_before}
use Rattle.desk_words.specs.declared.caller.KeyRow.{KeyRow}
use Rattle.desk_words.specs.declared.office.MeetingLists.{MeetingLists}
use Rattle.desk_words.specs.declared.office.OfficeLists.{OfficeLists}
use Rattle.desk_words.specs.declared.records.Poll.{Poll}
use Rattle.desk_words.specs.declared.records.RegisterRow.{RegisterRow}
use Rattle.desk_words.specs.declared.records.Resolution.{Resolution}
use Rattle.desk_words.specs.declared.records.Session.{Session}
use Rattle.sql_rows.specs.ColumnValues.{parsed_of}
use Rattle.sql_rows.specs.Meanings.{all_meanings}
use Rattle.sql_rows.specs.declared.stored_records.InMeeting.{InMeeting}
use Rattle.sql_rows.specs.declared.stored_records.MeetingRow.{MeetingRow}
use Rattle.sql_schema.specs.Contents as table
use Rattle.sql_schema.specs.Statements.{TableOf, columns_of, records_in}
use Rattle.sql_model.specs.OfficeRecords.{are_left_empty, whole_meeting}
use Rattle.sql_load.specs.OwnLists.{are_few, resolutions_own, sessions_own}
use Rattle.sql_load.specs.MeetingRecords.{without_meeting}
use Rattle.sql_open.specs.declared.meeting_lists.Called.{Called}
use Rattle.sql_open.specs.declared.meeting_lists.Given.{Given}
use Rattle.sql_open.specs.declared.meeting_lists.Polled.{Polled}

-- ---- the rows of a meeting

-- the meeting that a row names in the first of the columns that are shown, if it names one
abbrev pub meeting_in_row : {A : Type 0} → TableOf A → Row → Option (List ℕ)
meeting_in_row table row = parsed_of meeting_of (column row (slice_index table.columns 0))

-- the row names that meeting
abbrev pub is_of : {A : Type 0} → TableOf A → List ℕ → Row → Bool
is_of table id row = option_map_or (λ name. same_name name id) (meeting_in_row table row) false

-- the rows of a table that name a meeting, in their order, as they are shown
abbrev pub rows_of_meeting : {A : Type 0} → TableOf A → List ℕ → Trees → List Row
rows_of_meeting table id trees =
    map (columns_of table) (filter (is_of table id) (trees table.number))

-- what they mean, without the meeting, or nothing where one of them means nothing
abbrev pub own_in : {A : Type 0} → TableOf (InMeeting A) → List ℕ → Trees → Option (List A)
own_in table id trees = do
  its ← all_meanings table.means (rows_of_meeting table id trees)
  Some (map without_meeting its)

-- ---- the lists of a meeting, in three parts

-- its further sessions in the order of their numbers, which are 2, 3, ..
abbrev pub sessions_in : List ℕ → Trees → Option (List Session)
sessions_in id trees = do
  rows ← own_in table.sessions id trees
  sessions_own rows

-- its resolutions in the order of their numbers, which are 1, 2, ..
abbrev pub resolutions_in : List ℕ → Trees → Option (List Resolution)
resolutions_in id trees = do
  rows ← own_in table.resolutions id trees
  resolutions_own rows

-- its register in the order of members
abbrev pub register_in : List ℕ → Trees → Option (List RegisterRow)
register_in id trees = do
  rows ← own_in table.register id trees
  Some (sort_by member_before rows)

-- its polls in the order of resolutions
abbrev pub polls_in : List ℕ → Trees → Option (List Poll)
polls_in id trees = do
  rows ← own_in table.polls id trees
  Some (sort_by poll_before rows)

-- what a meeting is called with
abbrev pub called_in : MeetingRow → Trees → Option Called
called_in row trees = do
  later ← sessions_in row.id trees
  resolutions ← resolutions_in row.id trees
  its_register ← register_in row.id trees
  Some (record { meeting = whole_meeting row later resolutions; register = its_register })

-- what its members give
abbrev pub given_in : List ℕ → Trees → Option Given
given_in id trees = do
  its_appointments ← own_in table.appointments id trees
  its_endings ← own_in table.endings id trees
  its_authorities ← own_in table.authorities id trees
  Some (record {
    appointments = its_appointments;
    endings = its_endings;
    authorities = its_authorities;
  })

-- who is present, what is demanded, and the polls
abbrev pub polled_in : List ℕ → Trees → Option Polled
polled_in id trees = do
  its_presences ← own_in table.presences id trees
  its_demands ← own_in table.demands id trees
  its_polls ← polls_in id trees
  Some (record { presences = its_presences; demands = its_demands; polls = its_polls })

-- a meeting is called with few enough sessions, and with resolutions and a register that may be so
abbrev pub are_called : Called → Bool
are_called c =
    are_few c.meeting.later && are_resolutions c.meeting.resolutions && are_rows c.register

-- no two of its polls are on one resolution
abbrev pub are_polled : Polled → Bool
are_polled p = ascends_by poll_before p.polls

-- the lists of a meeting of the three parts, and no votes
abbrev pub lists_of_parts : Called → Given → Polled → MeetingLists
lists_of_parts called given polled = record {
  meeting = called.meeting;
  register = called.register;
  appointments = given.appointments;
  endings = given.endings;
  authorities = given.authorities;
  presences = polled.presences;
  demands = polled.demands;
  polls = polled.polls;
  casts = [];
}

-- the lists of a meeting but its votes, or nothing where one of its rows means nothing, its further
-- sessions are not numbered 2, 3, .. or its resolutions not 1, 2, ..
abbrev pub but_votes : MeetingRow → Trees → Option MeetingLists
but_votes row trees = do
  called ← called_in row trees
  given ← given_in row.id trees
  polled ← polled_in row.id trees
  Some (lists_of_parts called given polled)

-- the lists of a meeting with its votes
abbrev pub lists_in : MeetingRow → Trees → Option MeetingLists
lists_in row trees = do
  votes ← own_in table.casts row.id trees
  lists ← but_votes row trees
  Some (record lists { casts = votes })

-- the lists of each meeting
abbrev pub lists_of_each : List MeetingRow → Trees → Option (List MeetingLists)
lists_of_each [] trees = Some []
lists_of_each (row ∷ rest) trees = do
  first ← lists_in row trees
  later ← lists_of_each rest trees
  Some (first ∷ later)

-- ---- the office

-- the keys in the order of callers
abbrev pub keys_in : Trees → Option (List KeyRow)
keys_in trees = do
  rows ← records_in table.keys trees
  Some (sort_by caller_before rows)

-- the closed days in order
abbrev pub days_in : Trees → Option (List ℕ)
days_in trees = do
  days ← records_in table.closed trees
  Some (sort_by day_before days)

-- the meetings
abbrev pub meetings_in : Trees → Option (List MeetingLists)
meetings_in trees = do
  rows ← records_in table.meetings trees
  lists_of_each rows trees

-- the office that the tables hold, where each row of a meeting's names one that stands
abbrev pub office_by_meetings : Trees → Option OfficeLists
office_by_meetings trees = do
  left ← guard (are_left_empty trees)
  keys ← keys_in trees
  days ← days_in trees
  meetings ← meetings_in trees
  Some (record { keys = keys; closed = days; meetings = meetings })
