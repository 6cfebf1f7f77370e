-- What the move of tables of version 1 promises, and what a crash leaves of it.
use Rattle.std.specs.Prelude.{◌≡◌, ◌≢◌, Some, Result, Err, OnOk, IsTrue}
use Rattle.sqlite.specs.Effect.{IsDatabase}
use Rattle.sqlite.specs.Held.{Held, state}
use Rattle.sqlite.specs.State.{State, HasCleanDisk, Survives}
use Rattle.sqlite.specs.Tree.{Trees}
use Rattle.sqlite_trees.specs.declared.store.Store as store
use Rattle.desk_words.specs.declared.office.OfficeLists.{OfficeLists}
use Rattle.sql_schema.specs.Statements.{WasOpen}
use Rattle.sql_model.specs.MigratedRecords.{IsMoved}
use Rattle.sql_model.specs.OfficeRecords.{office_one}
use Rattle.sql_model.specs.Standing.{HasNoOfficeBy, IsVersionOf, Stands, one}
use Rattle.sql_desk_tables.specs.ColumnChecks.{HasColumnsOf}
use Rattle.sql_open.specs.Migration.{IsFirst}
use Rattle.sql_open.specs.Known.{IsMadeAs}
use Rattle.sql_open.specs.WholeDesk.{IsWhole}
use Rattle.sql_open.specs.declared.fault.OpenFault.{OpenFault}
use Rattle.sql_open.specs.declared.fault.OpenFault.TheVariants.{NotADesk, NewerVersion}
use Rattle.sql_open.specs.declared.version.KnownVersion.TheVariants.{One}

-- the tables stand for the office that tables of version 1 held, and are those, moved
pub record HoldsMoved (old new : State) : Type 0 where
  pub office : OfficeLists
  pub stands : Stands new office
  pub sound : IsDatabase new.now
  pub was : office_one old.now.trees ≡ Some office
  pub moved : IsMoved old new

-- in a transaction tables of version 1 are moved, and found to hold an office, or to hold none;
-- nothing is committed
pub record IsMove {S : Type 0} (g : store.Ghosts S) (old new : Held S)
    (result : Result (Unit {0}) OpenFault) : Type 0 where
  pub right : HasCleanDisk (state g new) → IsTrue (state g old).in_transaction
      → IsFirst (state g old) → OnOk result (HoldsMoved (state g old) (state g new))
  pub none : HasCleanDisk (state g new) → IsTrue (state g old).in_transaction
      → IsFirst (state g old) → result ≡ Err NotADesk → HasNoOfficeBy one (state g old)
  pub other : result ≢ Err NewerVersion
  pub was_open : WasOpen (state g old) (state g new)
  pub crash : Survives (state g old) (state g new) (λ _. ⊥)

-- tables of version 1 held an office, and these are whole of it
abbrev pub KeepsOffice : State → Trees → Type 0
KeepsOffice old db =
    (office : OfficeLists) × (office_one old.now.trees ≡ Some office) × IsWhole db office

-- what is committed of tables of version 1 is their office, whole
abbrev pub MovesWhole : State → Trees → Type 0
MovesWhole old db = IsFirst old → KeepsOffice old db

-- the tables that are committed where tables of version 1 are moved: each column that is read of
-- those stood, they were made as their program makes them, and where they noted version 1, these
-- are whole of their office
pub record MayMove (old : State) (db : Trees) : Type 0 where
  pub was_open : IsTrue old.is_open
  pub columns : HasColumnsOf one.asked old.now.schema
  pub made : IsMadeAs One old.now.schema
  pub whole : IsVersionOf one old → KeepsOffice old db
