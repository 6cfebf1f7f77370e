-- A transaction over the tables, in which the records of a meeting are looked up.
use Rattle.std.specs.Prelude.{◌≡◌, Option, Some, IsTrue}
use Rattle.sqlite.specs.Held.{Held, state}
use Rattle.sqlite.specs.State.{HasCleanDisk, IsUnchanged}
use Rattle.sqlite_trees.specs.declared.store.Store as store
use Rattle.desk_words.specs.Office.{is_office}
use Rattle.desk_words.specs.ViewTypes.{MeetingName}
use Rattle.desk_words.specs.declared.office.MeetingLists.{MeetingLists}
use Rattle.desk_words.specs.declared.office.OfficeLists.{OfficeLists}
use Rattle.party_views.specs.Views.{meeting_at}
use Rattle.sql_schema.specs.Statements.{ChangesNothing, IsDesk, IsRead}
use Rattle.sql_model.specs.OfficeRecords.{office_in}

-- the tables are a desk's and hold an office, in which this is the meeting of that name, or there
-- is none
pub record ShowsMeeting {S : Type 0} (g : store.Ghosts S) (held : Held S) (meeting : MeetingName)
    (found : Option MeetingLists) : Type 0 where
  pub desk : IsDesk (state g held)
  pub office : OfficeLists
  pub holds : office_in (state g held).now.trees ≡ Some office
  pub preserved : IsTrue (is_office office)
  pub is : found ≡ meeting_at office meeting

-- nothing is committed, and what the disk returned before was as it was written if it is now
pub record LeavesTables {S : Type 0} (g : store.Ghosts S) (old new : Held S) : Type 0 where
  pub changes : ChangesNothing g old new
  pub was_clean : HasCleanDisk (state g new) → HasCleanDisk (state g old)

-- besides, where the disk returned what was written, the tables are as they were
pub record KeepsStoredTables {S : Type 0} (g : store.Ghosts S) (old new : Held S) : Type 0 where
  pub same : IsRead g old new → IsUnchanged (state g old) (state g new)
  pub leaves : LeavesTables g old new
