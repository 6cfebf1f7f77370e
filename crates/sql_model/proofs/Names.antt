-- The tables, and the lists of a meeting, as functions of their names.
use Rattle.std.proofs.Common.{◌≡◌, ℕ, ◌==◌, true, false, List, refl}
use Rattle.seq.specs.Sorting.{sort_by}
use Rattle.desk_words.specs.Office.{poll_before}
use Rattle.desk_words.specs.Registers.{member_before}
use Rattle.desk_words.specs.declared.caller.KeyRow.{KeyRow}
use Rattle.desk_words.specs.declared.office.MeetingLists.{MeetingLists}
use Rattle.desk_words.specs.declared.records.Appointment.{Appointment}
use Rattle.desk_words.specs.declared.records.Authority.{Authority}
use Rattle.desk_words.specs.declared.records.CastMark.{CastMark}
use Rattle.desk_words.specs.declared.records.DemandMark.{DemandMark}
use Rattle.desk_words.specs.declared.records.Ending.{Ending}
use Rattle.desk_words.specs.declared.records.Poll.{Poll}
use Rattle.desk_words.specs.declared.records.PresenceMark.{PresenceMark}
use Rattle.desk_words.specs.declared.records.RegisterRow.{RegisterRow}
use Rattle.desk_words.specs.declared.records.Resolution.{Resolution}
use Rattle.desk_words.specs.declared.records.Session.{Session}
use Rattle.sql_rows.specs.declared.stored_records.InMeeting.{InMeeting}
use Rattle.sql_rows.specs.declared.stored_records.MeetingRow.{MeetingRow}
use Rattle.sql_rows.specs.declared.stored_records.Numbered.{Numbered}
use Rattle.sql_schema.specs.Contents as table
use Rattle.sql_schema.specs.Statements.{TableOf}
use Rattle.sql_model.specs.OfficeRecords.{FlatLists}

-- the lists that each meeting has, of which each is a table
pub data ListName : Type 0 where
  Register Appointments Endings Authorities Presences Demands Polls Casts : ListName

-- the tables of an office's records
pub data TableName : Type 0 where
  Keys Closed Meetings Sessions Resolutions : TableName
  Each : ListName → TableName

-- what stands in a list of a meeting
abbrev pub ItemOf : ListName → Type 0
ItemOf Register = RegisterRow
ItemOf Appointments = Appointment
ItemOf Endings = Ending
ItemOf Authorities = Authority
ItemOf Presences = PresenceMark
ItemOf Demands = DemandMark
ItemOf Polls = Poll
ItemOf Casts = CastMark

-- a table, and its records among those of all tables
pub record StoredAs (A : Type 0) : Type 0 where
  pub table : TableOf A
  pub all : FlatLists → List A
  pub with_all : List A → FlatLists → FlatLists

-- a list in a meeting, and the order in which it stands there
pub record Owned (A : Type 0) : Type 0 where
  pub own : MeetingLists → List A
  pub with_own : List A → MeetingLists → MeetingLists
  pub arrange : List A → List A

-- each list as its table holds it
abbrev pub list_stored_as : (n : ListName) → StoredAs (InMeeting (ItemOf n))
list_stored_as Register = record { table = table.register; all = λ f. f.register; with_all = λ l f. record f { register = l } }
list_stored_as Appointments = record { table = table.appointments; all = λ f. f.appointments; with_all = λ l f. record f { appointments = l } }
list_stored_as Endings = record { table = table.endings; all = λ f. f.endings; with_all = λ l f. record f { endings = l } }
list_stored_as Authorities = record { table = table.authorities; all = λ f. f.authorities; with_all = λ l f. record f { authorities = l } }
list_stored_as Presences = record { table = table.presences; all = λ f. f.presences; with_all = λ l f. record f { presences = l } }
list_stored_as Demands = record { table = table.demands; all = λ f. f.demands; with_all = λ l f. record f { demands = l } }
list_stored_as Polls = record { table = table.polls; all = λ f. f.polls; with_all = λ l f. record f { polls = l } }
list_stored_as Casts = record { table = table.casts; all = λ f. f.casts; with_all = λ l f. record f { casts = l } }

-- and as a meeting has it
abbrev pub owned : (n : ListName) → Owned (ItemOf n)
owned Register = record { own = λ x. x.register; with_own = λ l x. record x { register = l }; arrange = sort_by member_before }
owned Appointments = record { own = λ x. x.appointments; with_own = λ l x. record x { appointments = l }; arrange = λ l. l }
owned Endings = record { own = λ x. x.endings; with_own = λ l x. record x { endings = l }; arrange = λ l. l }
owned Authorities = record { own = λ x. x.authorities; with_own = λ l x. record x { authorities = l }; arrange = λ l. l }
owned Presences = record { own = λ x. x.presences; with_own = λ l x. record x { presences = l }; arrange = λ l. l }
owned Demands = record { own = λ x. x.demands; with_own = λ l x. record x { demands = l }; arrange = λ l. l }
owned Polls = record { own = λ x. x.polls; with_own = λ l x. record x { polls = l }; arrange = sort_by poll_before }
owned Casts = record { own = λ x. x.casts; with_own = λ l x. record x { casts = l }; arrange = λ l. l }

-- what a table's records are
abbrev pub RecordOf : TableName → Type 0
RecordOf Keys = KeyRow
RecordOf Closed = ℕ
RecordOf Meetings = MeetingRow
RecordOf Sessions = InMeeting (Numbered Session)
RecordOf Resolutions = InMeeting (Numbered Resolution)
RecordOf (Each n) = InMeeting (ItemOf n)

-- each table
abbrev pub stored_as : (n : TableName) → StoredAs (RecordOf n)
stored_as Keys = record { table = table.keys; all = λ f. f.keys; with_all = λ l f. record f { keys = l } }
stored_as Closed = record { table = table.closed; all = λ f. f.closed; with_all = λ l f. record f { closed = l } }
stored_as Meetings = record { table = table.meetings; all = λ f. f.meetings; with_all = λ l f. record f { meetings = l } }
stored_as Sessions = record { table = table.sessions; all = λ f. f.sessions; with_all = λ l f. record f { sessions = l } }
stored_as Resolutions = record { table = table.resolutions; all = λ f. f.resolutions; with_all = λ l f. record f { resolutions = l } }
stored_as (Each n) = list_stored_as n

-- ---- two tables are the same, or have other numbers

-- the number of a table
abbrev pub number_of : TableName → ℕ
number_of n = (stored_as n).table.number

-- two tables are the same where their numbers are
pub same_table : (m n : TableName) → (number_of m == number_of n) ≡ true → m ≡ n
same_table = elim [
  | Keys ↦ elim [ Keys ↦ λ h. cc | Each Register ↦ λ h. cc | _ ↦ λ h. cc ]
  | Each Register ↦ elim [ Keys ↦ λ h. cc | Each Register ↦ λ h. cc | _ ↦ λ h. cc ]
  | _ ↦ elim [ Keys ↦ λ h. cc | Each Register ↦ λ h. cc | _ ↦ λ h. cc ]
]

-- ---- what a change of the records of one table leaves

-- its records are the new ones
pub all-changed : (n : TableName) (l : List (RecordOf n)) (flat : FlatLists) → (stored_as n).all ((stored_as n).with_all l flat) ≡ l
all-changed = elim [ Keys ↦ λ l flat. refl | Each Register ↦ λ l flat. refl | _ ↦ λ l flat. refl ]

-- and those of another table stay
pub all-same : (m n : TableName) → (number_of m == number_of n) ≡ false → (l : List (RecordOf n)) (flat : FlatLists) → (stored_as m).all ((stored_as n).with_all l flat) ≡ (stored_as m).all flat
all-same = elim [
  | Keys ↦ elim [ Keys ↦ λ h l flat. cc | Each Register ↦ λ h l flat. refl | _ ↦ λ h l flat. first_of (assumption, cc) ]
  | Each Register ↦ elim [ Keys ↦ λ h l flat. refl | Each Register ↦ λ h l flat. cc | _ ↦ λ h l flat. first_of (assumption, cc) ]
  | _ ↦ elim [ Keys ↦ λ h l flat. first_of (assumption, cc) | Each Register ↦ λ h l flat. first_of (assumption, cc) | _ ↦ λ h l flat. first_of (assumption, cc) ]
]

-- no list stands in the table that is made first
pub not_first : (n : ListName) → (0 == number_of (Each n)) ≡ false
not_first = elim [ Register ↦ refl | _ ↦ refl ]
