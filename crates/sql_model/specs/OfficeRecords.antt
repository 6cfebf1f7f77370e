-- The office that the tables are, in two stages: what each table holds, and of that the lists of
-- each meeting.
use Rattle.std.specs.Prelude.{ℕ, suc, Bool, ◌&&◌, ◌==◌, length, nat_lt, List, [], ◌∷◌, map, filter, Option, Some}
use Rattle.std.specs.List.{list_all, list_any}
use Rattle.sqlite.specs.Tree.{Trees}
use Rattle.seq.specs.Sorting.{sort_by}
use Rattle.vocabulary.specs.Names.{same_name}
use Rattle.desk_words.specs.SortedLists.{caller_before, day_before}
use Rattle.desk_words.specs.Office.{poll_before}
use Rattle.desk_words.specs.Registers.{member_before}
use Rattle.desk_words.specs.declared.caller.KeyRow.{KeyRow}
use Rattle.desk_words.specs.declared.office.MeetingLists.{MeetingLists}
use Rattle.desk_words.specs.declared.office.OfficeLists.{OfficeLists}
use Rattle.desk_words.specs.declared.records.Appointment.{Appointment}
use Rattle.desk_words.specs.declared.records.Authority.{Authority}
use Rattle.desk_words.specs.declared.records.CastMark.{CastMark}
use Rattle.desk_words.specs.declared.records.DemandMark.{DemandMark}
use Rattle.desk_words.specs.declared.records.Ending.{Ending}
use Rattle.desk_words.specs.declared.records.Meeting.{Meeting}
use Rattle.desk_words.specs.declared.records.Poll.{Poll}
use Rattle.desk_words.specs.declared.records.PresenceMark.{PresenceMark}
use Rattle.desk_words.specs.declared.records.RegisterRow.{RegisterRow}
use Rattle.desk_words.specs.declared.records.Resolution.{Resolution}
use Rattle.desk_words.specs.declared.records.Session.{Session}
use Rattle.sql_rows.specs.declared.stored_records.InMeeting.{InMeeting}
use Rattle.sql_rows.specs.declared.stored_records.MeetingRow.{MeetingRow}
use Rattle.sql_rows.specs.declared.stored_records.Numbered.{Numbered}
use Rattle.vocabulary.specs.OptionSteps.{◌>>=◌, guard}
use Rattle.sql_schema.specs.Contents.{keys, closed, meetings, sessions, resolutions, register, appointments, endings, authorities, presences, demands, polls, casts, presences_before_sessions, demands_before_sessions, polls_before_sessions}
use Rattle.sql_schema.specs.Statements.{TableOf, records_in}

-- ---- what each table holds

-- the records of the tables, each with its meeting
pub record FlatLists : Type 0 where
  pub keys : List KeyRow
  pub closed : List ℕ
  pub meetings : List MeetingRow
  pub sessions : List (InMeeting (Numbered Session))
  pub resolutions : List (InMeeting (Numbered Resolution))
  pub register : List (InMeeting RegisterRow)
  pub appointments : List (InMeeting Appointment)
  pub endings : List (InMeeting Ending)
  pub authorities : List (InMeeting Authority)
  pub presences : List (InMeeting PresenceMark)
  pub demands : List (InMeeting DemandMark)
  pub polls : List (InMeeting Poll)
  pub casts : List (InMeeting CastMark)

-- what the rows of the tables mean where the further sessions, the presences, the demands and the
-- polls are these, or nothing where a row means nothing
abbrev pub flat_with : Option (List (InMeeting (Numbered Session)))
    → Option (List (InMeeting PresenceMark)) → Option (List (InMeeting DemandMark))
    → Option (List (InMeeting Poll)) → Trees → Option FlatLists
flat_with its_sessions its_presences its_demands its_polls trees = do
  the_keys ← records_in keys trees
  the_days ← records_in closed trees
  the_meetings ← records_in meetings trees
  the_sessions ← its_sessions
  the_resolutions ← records_in resolutions trees
  the_register ← records_in register trees
  the_appointments ← records_in appointments trees
  the_endings ← records_in endings trees
  the_authorities ← records_in authorities trees
  the_presences ← its_presences
  the_demands ← its_demands
  the_polls ← its_polls
  the_casts ← records_in casts trees
  Some (record {
    keys = the_keys;
    closed = the_days;
    meetings = the_meetings;
    sessions = the_sessions;
    resolutions = the_resolutions;
    register = the_register;
    appointments = the_appointments;
    endings = the_endings;
    authorities = the_authorities;
    presences = the_presences;
    demands = the_demands;
    polls = the_polls;
    casts = the_casts;
  })

-- the same of version 1, in which each meeting has one session
unfoldable pub flat_one : Trees → Option FlatLists
flat_one trees =
    flat_with (Some []) (records_in presences_before_sessions trees)
    (records_in demands_before_sessions trees) (records_in polls_before_sessions trees) trees

-- a table has no row
abbrev pub has_no_row : {A : Type 0} → TableOf A → Trees → Bool
has_no_row table trees = length (trees table.number) == 0

-- the tables that version 2 leaves empty have no row
abbrev pub are_left_empty : Trees → Bool
are_left_empty trees =
    has_no_row presences_before_sessions trees && has_no_row demands_before_sessions trees
    && has_no_row polls_before_sessions trees

-- the same of version 2, or nothing where a table that it leaves empty has a row
unfoldable pub flat_two : Trees → Option FlatLists
flat_two trees = do
  left ← guard (are_left_empty trees)
  flat_with (records_in sessions trees) (records_in presences trees) (records_in demands trees)
      (records_in polls trees) trees

-- and of the version that the desk makes and reads
abbrev pub flat_in : Trees → Option FlatLists
flat_in = flat_two

-- ---- the lists of each meeting

-- the records of a meeting, in their order
abbrev pub of_meeting : {A : Type 0} → List ℕ → List (InMeeting A) → List A
of_meeting {A} id records =
    map (λ (r : InMeeting A). r.item) (filter (λ (r : InMeeting A). same_name r.meeting id) records)

-- the first has the lower number
abbrev pub number_before : {A : Type 0} → Numbered A → Numbered A → Bool
number_before {A} a b = nat_lt a.number b.number

-- the things, if they are numbered on from a number
abbrev pub numbered_from : {A : Type 0} → ℕ → List (Numbered A) → Option (List A)
numbered_from n [] = Some []
numbered_from n (r ∷ rest) = do
  here ← guard (r.number == n)
  later ← numbered_from (suc n) rest
  Some (r.item ∷ later)

-- the things of a meeting in the order of their numbers, which go on from that one
abbrev pub numbered_of : {A : Type 0} → ℕ → List ℕ → List (InMeeting (Numbered A))
    → Option (List A)
numbered_of n id records = numbered_from n (sort_by number_before (of_meeting id records))

-- the further sessions of a meeting, numbered 2, 3, ..
abbrev pub further_sessions : List ℕ → List (InMeeting (Numbered Session)) → Option (List Session)
further_sessions = numbered_of 2

-- the resolutions of a meeting, numbered 1, 2, ..
abbrev pub resolutions_of : List ℕ → List (InMeeting (Numbered Resolution))
    → Option (List Resolution)
resolutions_of = numbered_of 1

-- a meeting with its further sessions and its resolutions
abbrev pub whole_meeting : MeetingRow → List Session → List Resolution → Meeting
whole_meeting m later resolutions = record {
  id = m.id;
  company = m.company;
  kind = m.kind;
  given = m.given;
  first = record { appointed = m.appointed; opened = m.opened };
  later = later;
  record_moment = m.record_moment;
  resolutions = resolutions;
  loaded = m.loaded;
}

-- the lists of a meeting with these further sessions and resolutions: the register in the order of
-- members, the polls in the order of resolutions, and the others in order of receipt
abbrev pub lists_with : FlatLists → MeetingRow → List Session → List Resolution → MeetingLists
lists_with flat m later resolutions = record {
  meeting = whole_meeting m later resolutions;
  register = sort_by member_before (of_meeting m.id flat.register);
  appointments = of_meeting m.id flat.appointments;
  endings = of_meeting m.id flat.endings;
  authorities = of_meeting m.id flat.authorities;
  presences = of_meeting m.id flat.presences;
  demands = of_meeting m.id flat.demands;
  polls = sort_by poll_before (of_meeting m.id flat.polls);
  casts = of_meeting m.id flat.casts;
}

-- the lists of a meeting, or nothing where its further sessions are not numbered 2, 3, .. or its
-- resolutions not 1, 2, ..
abbrev pub lists_of : FlatLists → MeetingRow → Option MeetingLists
lists_of flat m = do
  later ← further_sessions m.id flat.sessions
  resolutions ← resolutions_of m.id flat.resolutions
  Some (lists_with flat m later resolutions)

-- the lists of each meeting
abbrev pub lists_of_all : FlatLists → List MeetingRow → Option (List MeetingLists)
lists_of_all flat [] = Some []
lists_of_all flat (m ∷ rest) = do
  first ← lists_of flat m
  later ← lists_of_all flat rest
  Some (first ∷ later)

-- each record is of a meeting that stands
abbrev pub name_meetings : {A : Type 0} → List MeetingRow → List (InMeeting A) → Bool
name_meetings {A} meetings records =
    list_all (λ (r : InMeeting A). list_any (λ (m : MeetingRow). same_name m.id r.meeting) meetings)
    records

-- no record is of a meeting that does not stand
abbrev pub have_meetings : FlatLists → Bool
have_meetings flat =
    name_meetings flat.meetings flat.sessions
    && name_meetings flat.meetings flat.resolutions
    && name_meetings flat.meetings flat.register
    && name_meetings flat.meetings flat.appointments
    && name_meetings flat.meetings flat.endings
    && name_meetings flat.meetings flat.authorities
    && name_meetings flat.meetings flat.presences
    && name_meetings flat.meetings flat.demands
    && name_meetings flat.meetings flat.polls
    && name_meetings flat.meetings flat.casts

-- the lists of an office that the records are, or nothing
unfoldable pub office_of_records : FlatLists → Option OfficeLists
office_of_records flat = do
  known ← guard (have_meetings flat)
  lists ← lists_of_all flat flat.meetings
  Some
      (record {
        keys = sort_by caller_before flat.keys;
        closed = sort_by day_before flat.closed;
        meetings = lists;
      })

-- the lists of an office that tables of version 1 are, or nothing where their rows are none
abbrev pub office_one : Trees → Option OfficeLists
office_one trees = flat_one trees >>= office_of_records

-- and those that the tables of the desk are
abbrev pub office_in : Trees → Option OfficeLists
office_in trees = flat_in trees >>= office_of_records
