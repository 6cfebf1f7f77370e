-- Whether the tables hold an office, judged meeting by meeting.
use Rattle.std.specs.Prelude.{◌≡◌, ◌==◌, ℕ, Bool, false, ◌&&◌, List, length, nat_le, Option, Some, Result, Err, OnOk, IsTrue}
use Rattle.seq.specs.Ordered.{differ_by}
use Rattle.sqlite.specs.Held.{Held, state}
use Rattle.sqlite.specs.State.{IsUnchanged}
use Rattle.sqlite.specs.Tree.{Trees}
use Rattle.sqlite_trees.specs.declared.store.Store as store
use Rattle.vocabulary.specs.Names.{same_name}
use Rattle.vocabulary.specs.OptionSteps.{◌>>=◌, guard}
use Rattle.desk_words.specs.Office.{is_meeting, is_office}
use Rattle.desk_words.specs.SortedLists.{is_day_list, is_key_list}
use Rattle.desk_words.specs.declared.limits.TheConstants.{MOST_MEETINGS}
use Rattle.desk_words.specs.declared.office.MeetingLists.{MeetingLists}
use Rattle.desk_words.specs.declared.office.OfficeLists.{OfficeLists}
use Rattle.sql_rows.specs.declared.stored_records.MeetingRow.{MeetingRow}
use Rattle.sql_schema.specs.Contents as table
use Rattle.sql_schema.specs.Statements.{ChangesNothing, IsRead, records_in}
use Rattle.sql_model.specs.OfficeRecords.{are_left_empty, office_in}
use Rattle.sql_load.specs.declared.fault.LoadError.{LoadError}
use Rattle.sql_load.specs.declared.fault.LoadError.TheVariants.{NoOffice}
use Rattle.sql_open.specs.MeetingReading.{but_votes, days_in, keys_in}
use Rattle.sql_open.specs.StoredRows.{counted_on, rows_but_votes, stored_rows}
use Rattle.sql_open.specs.Votes.{judged_votes}
use Rattle.sql_open.specs.declared.judging.Judged.{Judged}

-- both meetings have one name
abbrev pub same_meeting_row : MeetingRow → MeetingRow → Bool
same_meeting_row a b = same_name a.id b.id

-- at most `MOST_MEETINGS` meetings, each with a name of its own
abbrev pub are_meeting_rows : List MeetingRow → Bool
are_meeting_rows rows = nat_le (length rows) MOST_MEETINGS && differ_by same_meeting_row rows

-- the keys are such a list
abbrev pub judged_keys : Trees → Option (Unit {0})
judged_keys trees = do
  keys ← keys_in trees
  guard (is_key_list keys)

-- the closed days are such a list
abbrev pub judged_days : Trees → Option (Unit {0})
judged_days trees = do
  days ← days_in trees
  guard (is_day_list days)

-- the rows of the meetings, if they are those of an office
abbrev pub rows_judged : Trees → Option (List MeetingRow)
rows_judged trees = do
  rows ← records_in table.meetings trees
  right ← guard (are_meeting_rows rows)
  Some rows

-- what is judged of a meeting's lists but its votes: how many rows they are, and the polls
abbrev pub judged_as : MeetingLists → Judged
judged_as lists = record { rows = rows_but_votes lists; polls = lists.polls }

-- the lists of a meeting are such but its votes
abbrev pub judged_but_votes : MeetingRow → Trees → Option Judged
judged_but_votes row trees = do
  lists ← but_votes row trees
  right ← guard (is_meeting lists)
  Some (judged_as lists)

-- and the votes on each of its polls are such; how many rows they all are
abbrev pub judged_in : MeetingRow → Trees → Option ℕ
judged_in row trees = do
  its ← judged_but_votes row trees
  counted_on (judged_votes row.id) its.polls its.rows trees

-- the meetings are those of an office; how many rows their lists are
abbrev pub judged_lists : Trees → Option ℕ
judged_lists trees = do
  rows ← rows_judged trees
  counted_on judged_in rows 0 trees

-- and no row names another
abbrev pub judged_meetings : Trees → Option (Unit {0})
judged_meetings trees = do
  listed ← judged_lists trees
  guard (listed == stored_rows trees)

-- and all that the tables hold is an office
abbrev pub judged_office : Trees → Option (Unit {0})
judged_office trees = do
  left ← guard (are_left_empty trees)
  keys ← judged_keys trees
  days ← judged_days trees
  judged_meetings trees

-- the tables hold an office
abbrev pub HasOffice : Trees → Type 0
HasOffice trees =
    (office : OfficeLists) × (office_in trees ≡ Some office) × IsTrue (is_office office)

-- in a transaction over the tables of a desk they are found to hold an office, or why they are not,
-- and nothing is changed
pub record IsJudged {S : Type 0} (g : store.Ghosts S) (old new : Held S)
    (result : Result (Unit {0}) LoadError) : Type 0 where
  pub right : IsRead g old new → OnOk result (HasOffice (state g old).now.trees)
  pub none : IsRead g old new → result ≡ Err NoOffice → (office : OfficeLists)
      → office_in (state g old).now.trees ≡ Some office → is_office office ≡ false
  pub same : IsRead g old new → OnOk result (IsUnchanged (state g old) (state g new))
  pub changes : ChangesNothing g old new
