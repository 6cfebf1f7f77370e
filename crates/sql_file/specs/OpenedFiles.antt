-- The tables of a desk in a file, as they are opened, and why they are not.
use Rattle.std.specs.Prelude.{◌≡◌, ◌⊎◌, ℕ, List, Some}
use Rattle.sqlite.specs.Held.{Held, state}
use Rattle.sqlite.specs.State.{HasCleanDisk}
use Rattle.sqlite_trees.specs.declared.store.Store as store
use Rattle.sqlite.specs.declared.error.Error.{Error}
use Rattle.sqlite.specs.declared.error.Error.TheVariants.{SqliteFailure}
use Rattle.sqlite.specs.declared.error.ErrorCode.TheVariants as code
use Rattle.file_probe.specs.declared.fault.DeskFileError.{DeskFileError}
use Rattle.file_probe.specs.declared.fault.DeskFileError.TheVariants as error
use Rattle.desk_words.specs.declared.office.OfficeLists.{OfficeLists}
use Rattle.sql_model.specs.Standing.{Stands, office_by}
use Rattle.sql_open.specs.Known.{AreOpened, IsMadeAs, edition_of}
use Rattle.sql_open.specs.Opened.{IsSettled, IsWhyUnopened, KeepsOpenRows, SurvivesMoving}
use Rattle.sql_open.specs.WholeDesk.{OpensWhole}
use Rattle.sql_open.specs.declared.fault.OpenFault.{OpenFault}
use Rattle.sql_open.specs.declared.fault.OpenFault.TheVariants as opening
use Rattle.sql_open.specs.declared.opening.HandedBack.TheVariants as handed
use Rattle.sql_open.specs.declared.version.KnownVersion.{KnownVersion}
use Rattle.sql_file.specs.declared.files.ConnectError.{ConnectError}
use Rattle.sql_file.specs.declared.files.ConnectError.TheVariants as connecting

-- the tables that a database was found with are of a version that is known; those of version 2 are
-- as they were, and those of version 1 are moved; where they were made as the program of their
-- version makes them, they stand for the office that they held
pub record AreOpenedAs {S : Type 0} (g : store.Ghosts S) (first desk : Held S) : Type 0 where
  pub known : KnownVersion
  pub opened : AreOpened known (state g first) (state g desk)
  pub stands : IsMadeAs known (state g first).now.schema
      → (office : OfficeLists)
      × (office_by (edition_of known) (state g first).now.trees ≡ Some office)
      × Stands (state g desk) office

-- so they are opened where the disk returned what was written; tables that were whole stand for
-- their office; and a crash then leaves the tables that are read, and nothing else, and before that
-- what it left of those that were found, or those of version 1 moved
pub record OpensTables {S : Type 0} (g : store.Ghosts S) (first desk : Held S) : Type 0 where
  pub opened : HasCleanDisk (state g desk) → AreOpenedAs g first desk
  pub whole : OpensWhole g first desk
  pub settled : IsSettled g desk
  pub survives : SurvivesMoving g first desk

-- the error for which a database is not opened as a desk
abbrev pub open_error : OpenFault → DeskFileError
open_error opening.NotADesk = error.NotADesk
open_error opening.NewerVersion = error.NewerVersion
open_error opening.Store = error.Store
open_error opening.Memory = error.Memory

-- tables were refused for a reason, which the error is, and their file was given up: the rows are
-- as they were, and a crash leaves of them what it left before, or those of version 1 moved
pub record RefusesTables {F S : Type 0} (GivesUp : F → List ℕ → Held S → F → Type 0)
    (g : store.Ghosts S) (before : F) (name : List ℕ) (first : Held S) (why : DeskFileError)
    (after : F) : Type 0 where
  pub back : Held S
  pub fault : OpenFault
  pub is : why ≡ open_error fault
  pub cause : IsWhyUnopened g first fault (handed.Connection back)
  pub preserved : KeepsOpenRows g first back
  pub survives : SurvivesMoving g first back
  pub given_up : GivesUp before name back after

-- the file of that name was opened as a database, and its tables as those of a desk
abbrev pub OpensFile : {F S : Type 0} → (F → List ℕ → Held S → F → Type 0) → store.Ghosts S
    → F → List ℕ → Held S → F → Type 0
OpensFile {S = S} Finds g before name desk after =
    (first : Held S) × Finds before name first after × OpensTables g first desk

-- the file of that name was not opened: nothing was touched, or no database was found there, or its
-- tables were refused for a reason
abbrev pub RefusesFile : {F S : Type 0} → (F → List ℕ → Held S → F → Type 0)
    → (F → List ℕ → F → Type 0) → (F → List ℕ → Held S → F → Type 0) → store.Ghosts S
    → F → List ℕ → DeskFileError → F → Type 0
RefusesFile {F} {S} Finds Refuses GivesUp g before name why after =
    (after ≡ before) ⊎ (Refuses before name after
    ⊎ ((between : F) × (first : Held S)
    × Finds before name first between × RefusesTables GivesUp g between name first why after))

-- why a file was not opened as a database
abbrev pub connect_error : Error → ConnectError
connect_error (SqliteFailure code.CannotOpen) = connecting.CannotOpen
connect_error (SqliteFailure code.NotADatabase) = connecting.NotADatabase
connect_error (SqliteFailure code.OutOfMemory) = connecting.Memory
connect_error other = connecting.Store

-- the error for which no desk is made in it
abbrev pub making_error : ConnectError → DeskFileError
making_error connecting.Memory = error.Memory
making_error other = error.Store

-- the error for which no desk is opened in it
abbrev pub opening_error : ConnectError → DeskFileError
opening_error connecting.NotADatabase = error.NotADesk
opening_error connecting.Memory = error.Memory
opening_error other = error.Store
