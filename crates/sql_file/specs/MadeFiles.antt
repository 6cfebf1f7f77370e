-- The tables of a desk in a file, as they are made.
use Rattle.std.specs.Prelude.{◌≡◌, ◌≢◌, ◌⊎◌, ℕ, List, Result, Ok, Err, OnErr, OnOk}
use Rattle.sqlite.specs.Held.{Held, state}
use Rattle.sqlite.specs.State.{State, HasCleanDisk}
use Rattle.sqlite_trees.specs.declared.store.Store as store
use Rattle.desk_words.specs.Changes.{empty_office}
use Rattle.file_probe.specs.DeskFileErrors.{IsUnmade, IsUnreadable}
use Rattle.file_probe.specs.declared.fault.DeskFileError.{DeskFileError}
use Rattle.file_probe.specs.declared.fault.DeskFileError.TheVariants as error
use Rattle.sql_model.specs.Standing.{Stands}
use Rattle.sql_open.specs.Opened.{KeepsOpenTables, SurvivesMaking}
use Rattle.sql_open.specs.WholeDesk.{LeavesWhole}
use Rattle.sql_open.specs.declared.fault.CreateError.{CreateError}
use Rattle.sql_open.specs.declared.fault.CreateError.TheVariants as creating
use Rattle.sql_schema.specs.Tables.{no_schema}

-- whether a desk was made, or the error for which it was not
abbrev pub Making : Type 0
Making = Result (Unit {0}) DeskFileError

-- the error for which a desk was not made in a database
abbrev pub create_error : CreateError → DeskFileError
create_error creating.NotEmpty = error.NotEmpty
create_error creating.Store = error.Store
create_error creating.Memory = error.Memory

-- a database that held something is reported as not empty, and no other is; one that held nothing
-- is a desk that holds nothing, or the store failed, or memory ran out
abbrev pub Creates : State → State → Making → Type 0
Creates before after (Ok done) =
    (before.now.schema ≡ no_schema) × (HasCleanDisk after → Stands after empty_office)
Creates before after (Err error.NotEmpty) = before.now.schema ≢ no_schema
Creates before after (Err why) = IsUnreadable why × (before.now.schema ≡ no_schema)

-- of a desk that was made a crash leaves the desk that holds nothing, and nothing else
abbrev pub LeavesNewDesk : {S : Type 0} → store.Ghosts S → Held S → Making → Type 0
LeavesNewDesk g made result =
    OnOk result (HasCleanDisk (state g made) → LeavesWhole (state g made) empty_office)

-- the tables of a desk were made in a database, or its tables are as they were, and the file of
-- that name was closed
pub record MakesIn {F S : Type 0} (Closes : F → List ℕ → Held S → F → Type 0) (g : store.Ghosts S)
    (before : F) (name : List ℕ) (first : Held S) (result : Making) (after : F) : Type 0 where
  pub made : Held S
  pub creates : Creates (state g first) (state g made) result
  pub preserved : OnErr result (KeepsOpenTables g first made)
  pub leaves : LeavesNewDesk g made result
  pub survives : SurvivesMaking g first made
  pub closed : Closes before name made after

module _ {F S : Type 0} (Finds : F → List ℕ → Held S → F → Type 0)
    (Refuses Removes : F → List ℕ → F → Type 0) (Closes : F → List ℕ → Held S → F → Type 0) where
  -- no database was found in the file of that name, which is removed then, or not
  pub record FindsNone (before : F) (name : List ℕ) (result : Making) (after : F) : Type 0 where
    pub between : F
    pub refuses : Refuses before name between
    pub removed : (after ≡ between) ⊎ Removes between name after
    pub why : DeskFileError
    pub is : result ≡ Err why
    pub unreadable : IsUnreadable why

  -- a database was found in the file of that name, and that was done with it; or none was found
  abbrev pub MakesTables : store.Ghosts S → F → List ℕ → Making → F → Type 0
  MakesTables g before name result after =
      ((between : F) × (first : Held S) × Finds before name first between
      × MakesIn Closes g between name first result after)
      ⊎ FindsNone before name result after

  -- the file of that name is not there, or not to be touched
  pub record IsNotToBeMade (before : F) (result : Making) (after : F) : Type 0 where
    pub why : DeskFileError
    pub is : result ≡ Err why
    pub unmade : IsUnmade why
    pub same : after ≡ before

  -- so it is; or the file is there, and the tables of a desk were made in it, or not
  abbrev pub CreatesFile : (F → List ℕ → F → Type 0) → store.Ghosts S → F → List ℕ → Making → F
      → Type 0
  CreatesFile Makes g before name result after =
      IsNotToBeMade before result after
      ⊎ ((between : F) × Makes before name between × MakesTables g between name result after)
