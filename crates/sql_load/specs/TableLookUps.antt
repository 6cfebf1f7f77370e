-- What a reading returns of the office stored in the tables.
use Rattle.std.specs.Prelude.{◌≡◌, Result, MatchResult, Some, OnOk, IsTrue}
use Rattle.sqlite.specs.Held.{Held, state}
use Rattle.sqlite.specs.State.{IsUnchanged}
use Rattle.sqlite_trees.specs.declared.store.Store as store
use Rattle.desk_words.specs.Office.{is_office}
use Rattle.desk_words.specs.declared.office.OfficeLists.{OfficeLists}
use Rattle.sql_schema.specs.Statements.{ChangesNothing, IsRead}
use Rattle.sql_model.specs.OfficeRecords.{office_in}
use Rattle.sql_load.specs.declared.fault.LoadError.{LoadError}
use Rattle.sql_load.specs.declared.fault.LoadError.TheVariants.{NoOffice, Store, Memory}

-- it is never said that there is no office
abbrev pub IsLookUpFailure : LoadError → Type 0
IsLookUpFailure NoOffice = ⊥
IsLookUpFailure Store = Unit {0}
IsLookUpFailure Memory = Unit {0}

-- what is given is so; where nothing is, memory ran out or the store refused, and it is never said
-- that there is no office
abbrev pub HoldsOrFails : {X : Type 0} → (X → Type 0) → Result X LoadError → Type 0
HoldsOrFails IsSo result = MatchResult result IsSo IsLookUpFailure

-- in a transaction over tables that hold an office, what is returned holds of that office, and
-- nothing is changed
pub record HoldsOfStoredOffice {S X : Type 0} (g : store.Ghosts S) (old new : Held S)
    (result : Result X LoadError) (IsSo : OfficeLists → X → Type 0) : Type 0 where
  pub holds : IsRead g old new → (office : OfficeLists)
      → office_in (state g old).now.trees ≡ Some office → IsTrue (is_office office)
      → HoldsOrFails (IsSo office) result
  pub same : IsRead g old new → OnOk result (IsUnchanged (state g old) (state g new))
  pub changes : ChangesNothing g old new
