-- What a reading of the tables returns, and what is decided of a call.
use Rattle.std.specs.Prelude.{◌≡◌, Result, IfOk, OnOk, IsTrue}
use Rattle.sqlite.specs.Held.{Held, state}
use Rattle.sqlite.specs.State.{HasCleanDisk, IsUnchanged}
use Rattle.sqlite_trees.specs.declared.store.Store as store
use Rattle.desk_words.specs.Changes.{applied_if_any}
use Rattle.desk_words.specs.Office.{is_office}
use Rattle.desk_words.specs.declared.answer.Answer.{Answer}
use Rattle.desk_words.specs.declared.change.Change.{Change}
use Rattle.desk_words.specs.declared.office.OfficeLists.{OfficeLists}
use Rattle.desk_words.specs.declared.request.Call.{Call}
use Rattle.desk_words.specs.declared.request.DeskRequest.{DeskRequest}
use Rattle.desk_words.specs.ViewTypes.{Moment}
use Rattle.sql_load.specs.declared.fault.LoadError.{LoadError}
use Rattle.sql_model.specs.Standing.{Stands}
use Rattle.sql_schema.specs.Statements.{ChangesNothing, IsRead}
use Rattle.meeting_core.specs.Decisions.{desk_call}
use Rattle.meeting_core.specs.Step.{decided}

-- what is returned holds of the office stored in the tables, and nothing is changed
pub record HoldsOfTables {S X : Type 0} (g : store.Ghosts S) (old new : Held S)
    (result : Result X LoadError) (IsSo : OfficeLists → X → Type 0) : Type 0 where
  pub holds : HasCleanDisk (state g new) → (office : OfficeLists) → Stands (state g old) office
      → IfOk result (IsSo office)
  pub same : IsRead g old new → OnOk result (IsUnchanged (state g old) (state g new))
  pub changes : ChangesNothing g old new

-- it is what is decided of a call, and leaves the lists of an office
pub record IsDecided (call : Call) (office : OfficeLists) (answer : Answer Change) : Type 0 where
  pub is : answer ≡ decided office call
  pub preserved : IsTrue (is_office (applied_if_any office answer.change))

-- at whatever moment the office asks it of the whole desk, it is decided so
abbrev pub IsDecidedAlways : DeskRequest → OfficeLists → Answer Change → Type 0
IsDecidedAlways what office answer = (now : Moment) → IsDecided (desk_call now what) office answer
