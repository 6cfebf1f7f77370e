-- Why a database is not opened as a desk, and what is handed back then.
use Rattle.std.specs.Prelude.{◌≡◌, ◌≢◌, ◌⊎◌, ◌≤◌, false, List, [], ◌∷◌, Result, Err, IsTrue}
use Rattle.std.specs.Prelude.{IfErr, IfOk, OnOk}
use Rattle.sqlite.specs.declared.error.Error.{Error}
use Rattle.sqlite.specs.declared.error.Error.TheVariants.{SqliteFailure}
use Rattle.sqlite.specs.declared.error.ErrorCode.TheVariants.{Closed, OutOfMemory}
use Rattle.sqlite.specs.Effect.{Database}
use Rattle.sqlite.specs.Held.{Held, state}
use Rattle.sqlite.specs.State.{State, HasCleanDisk, IsUnchanged, Survives}
use Rattle.sqlite.specs.Steps.{FailsToOpen}
use Rattle.sqlite.specs.Tree.{Trees}
use Rattle.sqlite_disk.specs.Disk.{MoreFaults}
use Rattle.sqlite_trees.specs.View.{IsClean}
use Rattle.sqlite_trees.specs.declared.store.Store as store
use Rattle.sql_rows.specs.declared.stored_records.Version.{Version}
use Rattle.sql_open.specs.Judging.{HasOffice}
use Rattle.sql_schema.specs.Statements.{ChangesNothing, IsDesk, IsRead, WasOpen}
use Rattle.sql_desk_tables.specs.ColumnChecks.{HasColumnsOf}
use Rattle.sql_desk_tables.specs.Versions.{AreNoted}
use Rattle.sql_load.specs.declared.fault.LoadError.{LoadError}
use Rattle.sql_load.specs.declared.fault.LoadError.TheVariants as reading
use Rattle.sql_model.specs.Standing.{HasNoOffice, HasNoOfficeBy, HasNoVersion, IsNewer, IsVersionOf}
use Rattle.sql_desk_tables.specs.declared.columns.ColumnError.{ColumnError}
use Rattle.sql_desk_tables.specs.declared.columns.ColumnError.TheVariants as column
use Rattle.sql_open.specs.Known.{IsMadeAs, ShowsKnown, ShowsSuch, edition_of}
use Rattle.sql_open.specs.declared.fault.CreateError.{CreateError}
use Rattle.sql_open.specs.declared.fault.CreateError.TheVariants as creating
use Rattle.sql_open.specs.declared.fault.OpenFault.{OpenFault}
use Rattle.sql_open.specs.declared.fault.OpenFault.TheVariants.{NotADesk, NewerVersion}
use Rattle.sql_open.specs.declared.fault.OpenFault.TheVariants.{Store, Memory}
use Rattle.sql_open.specs.declared.opening.HandedBack.{HandedBack}
use Rattle.sql_open.specs.declared.opening.HandedBack.TheVariants as back
use Rattle.sql_open.specs.declared.version.KnownVersion.{KnownVersion}

-- the tables of a desk held an office
abbrev pub FindsOffice : {S : Type 0} → store.Ghosts S → Held S → Held S
    → Result (Unit {0}) OpenFault → Type 0
FindsOffice g old new result =
    HasCleanDisk (state g new) → IsDesk (state g old)
    → OnOk result (HasOffice (state g old).now.trees)

-- tables that are no desk's are wrong in this way; of want of memory and of the store's own faults
-- nothing is said
abbrev pub IsFaultOf : (State → Type 0) → OpenFault → State → Type 0
IsFaultOf Wrong NotADesk s = Wrong s
IsFaultOf Wrong NewerVersion s = IsNewer s
IsFaultOf Wrong Store s = Unit {0}
IsFaultOf Wrong Memory s = Unit {0}

-- a column that is read of this version is missing, or what the tables hold, made as its program
-- makes them, is no office
abbrev pub IsNoDeskOf : KnownVersion → State → Type 0
IsNoDeskOf known s =
    ¬ HasColumnsOf (edition_of known).asked s.now.schema
    ⊎ (IsMadeAs known s.now.schema → HasNoOfficeBy (edition_of known) s)

-- no version is noted, or a version that is known, and the tables are none of its
abbrev pub IsNoDesk : State → Type 0
IsNoDesk s =
    HasNoVersion s
    ⊎ ((known : KnownVersion) × IsVersionOf (edition_of known) s × IsNoDeskOf known s)

-- why tables that note their version are not opened as a desk
abbrev pub IsOpenCause : OpenFault → State → Type 0
IsOpenCause = IsFaultOf IsNoDesk

-- a later version is what the text that reads the version shows of a database, whatever its tables
-- are
abbrev pub ShowsLater : {S : Type 0} → store.Ghosts S → Database → Type 0
ShowsLater g db = ShowsSuch g db (λ version. 3 ≤ version.number)

-- in a transaction over tables that note their version a known version is returned, or why there is
-- none, and nothing is committed; it is the version that is shown
pub record ReturnsVersion {S : Type 0} (g : store.Ghosts S) (old new : Held S)
    (result : Result KnownVersion OpenFault) : Type 0 where
  pub noted : HasCleanDisk (state g new) → AreNoted (state g old)
      → IfOk result (λ known. IsVersionOf (edition_of known) (state g old))
  pub shown : HasCleanDisk (state g new) → IfOk result (ShowsKnown g (state g old).now)
  pub cause : HasCleanDisk (state g new) → AreNoted (state g old)
      → IfErr result (λ fault. IsFaultOf HasNoVersion fault (state g old))
  pub newer : HasCleanDisk (state g new) → result ≡ Err NewerVersion
      → ShowsLater g (state g old).now
  pub was_open : WasOpen (state g old) (state g new)
  pub crash : Survives (state g old) (state g new) (λ _. ⊥)

-- in a transaction over the tables of a desk they are found to hold an office, or to hold none, and
-- nothing is changed
pub record IsVerdict {S : Type 0} (g : store.Ghosts S) (old new : Held S)
    (result : Result (Unit {0}) OpenFault) : Type 0 where
  pub right : IsRead g old new → OnOk result (HasOffice (state g old).now.trees)
  pub same : IsRead g old new → OnOk result (IsUnchanged (state g old) (state g new))
  pub none : IsRead g old new → result ≡ Err NotADesk → HasNoOffice (state g old)
  pub other : result ≢ Err NewerVersion
  pub changes : ChangesNothing g old new

-- why the versions that are noted are not one that is known, alone
abbrev pub IsVersionFault : OpenFault → List Version → Type 0
IsVersionFault NotADesk versions =
    (version : Version) → versions ≡ version ∷ [] → version.number ≡ 0
IsVersionFault NewerVersion versions =
    (version : Version) × (versions ≡ version ∷ []) × (3 ≤ version.number)
IsVersionFault Store versions = ⊥
IsVersionFault Memory versions = ⊥

-- where the rows are no office's, the database is no desk
abbrev pub fault_of_reading : LoadError → OpenFault
fault_of_reading reading.NoOffice = NotADesk
fault_of_reading reading.Store = Store
fault_of_reading reading.Memory = Memory

-- why a desk was not made: want of memory, or what the store refused
abbrev pub create_fault_of : Error → CreateError
create_fault_of (SqliteFailure OutOfMemory) = creating.Memory
create_fault_of other = creating.Store

-- why a database was not opened: want of memory, or what the store refused
abbrev pub open_fault_of : Error → OpenFault
open_fault_of (SqliteFailure OutOfMemory) = Memory
open_fault_of other = Store

-- where a column that is read is missing, the database is no desk
abbrev pub fault_of_columns : ColumnError → OpenFault
fault_of_columns column.Missing = NotADesk
fault_of_columns (column.Refused error) = open_fault_of error

-- why the store of a connection was not opened once more: it is shut, or it was open and could not
-- be read
abbrev pub FailsToReopen : {S : Type 0} → store.Ghosts S → Held S → S → Error → Type 0
FailsToReopen g conn left e =
    (((g.view left).is_open ≡ false) × (e ≡ SqliteFailure Closed))
    ⊎ (IsTrue (state g conn).is_open
    × FailsToOpen (state g conn).now.trees (MoreFaults (state g conn).faults (g.faults left)) e)

-- this is the fault that is reported then
abbrev pub IsWhyShut : {S : Type 0} → store.Ghosts S → Held S → OpenFault → S → Type 0
IsWhyShut g conn fault left =
    IsClean (g.view left)
    → (e : Error) × (fault ≡ open_fault_of e) × FailsToReopen g conn left e

-- so it is where a store is handed back
abbrev pub ReportsReopening : {S : Type 0} → store.Ghosts S → Held S → OpenFault → HandedBack S
    → Type 0
ReportsReopening g conn fault (back.Connection it) = Unit {0}
ReportsReopening g conn fault (back.Store left) = IsWhyShut g conn fault left

-- so far the disk returned what was written
abbrev pub IsCleanBack : {S : Type 0} → store.Ghosts S → HandedBack S → Type 0
IsCleanBack g (back.Connection conn) = HasCleanDisk (state g conn)
IsCleanBack g (back.Store store) = IsClean (g.view store)

-- the tables that are handed back are these, where they can be seen
abbrev pub HandsBack : {S : Type 0} → store.Ghosts S → Trees → HandedBack S → Type 0
HandsBack g trees (back.Connection conn) =
    HasCleanDisk (state g conn) → IsTrue (state g conn).is_open → (state g conn).now.trees ≡ trees
HandsBack g trees (back.Store store) =
    IsClean (g.view store) → IsTrue (g.view store).is_open → (g.view store).trees ≡ trees

-- a connection that is handed back is in no transaction
abbrev pub IsInNone : {S : Type 0} → HandedBack S → Type 0
IsInNone (back.Connection conn) = conn.in_transaction ≡ false
IsInNone (back.Store store) = Unit {0}
