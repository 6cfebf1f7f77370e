-- What is known of a desk that was made or opened, and of a database that was not, where the disk
-- returned what was written.
use Rattle.std.specs.Prelude.{◌≡◌, ◌⊎◌, Some, Result, OnOk, IsTrue}
use Rattle.sqlite.specs.Held.{Held, state}
use Rattle.sqlite.specs.State.{State, HasCleanDisk, Survives}
use Rattle.sqlite.specs.Tree.{Trees}
use Rattle.sqlite_trees.specs.declared.store.Store as store
use Rattle.desk_words.specs.Changes.{empty_office}
use Rattle.desk_words.specs.declared.office.OfficeLists.{OfficeLists}
use Rattle.sql_schema.specs.Tables.{desk_schema}
use Rattle.sql_model.specs.Standing.{IsVersionOf, Stands, office_by}
use Rattle.sql_desk_tables.specs.Versions.{NotesVersion}
use Rattle.sql_open.specs.Crashes.{AreMoved, LeavesItself}
use Rattle.sql_open.specs.Known.{AreOpened, IsMadeAs, WereOf, edition_of}
use Rattle.sql_open.specs.NewDesk.{AreMade}
use Rattle.sql_open.specs.Opening.{IsCleanBack, IsOpenCause, ShowsLater}
use Rattle.sql_open.specs.WholeDesk.{IsNewDesk, IsWholeDesk, LeavesWhole}
use Rattle.sql_open.specs.declared.fault.OpenFault.{OpenFault}
use Rattle.sql_open.specs.declared.fault.OpenFault.TheVariants.{NewerVersion, Store, Memory}
use Rattle.sql_open.specs.declared.opening.HandedBack.{HandedBack}
use Rattle.sql_open.specs.declared.version.KnownVersion.{KnownVersion}
use Rattle.sql_open.specs.declared.version.KnownVersion.TheVariants.{One}

-- where it went well, this holds
abbrev pub OnDone : {S T E : Type 0} → store.Ghosts S → Held S → Result T E → Type 0 → Type 0
OnDone g new result Holds = HasCleanDisk (state g new) → OnOk result Holds

-- the store is open
abbrev pub StaysOpen : {S : Type 0} → store.Ghosts S → Held S → Type 0
StaysOpen g new = HasCleanDisk (state g new) → IsTrue (state g new).is_open

-- a crash leaves the tables that are read, and nothing else
abbrev pub IsSettled : {S : Type 0} → store.Ghosts S → Held S → Type 0
IsSettled g new = HasCleanDisk (state g new) → LeavesItself (state g new)

-- the tables are as they were
abbrev pub KeepsTables : {S : Type 0} → store.Ghosts S → Held S → Held S → Type 0
KeepsTables g old new = HasCleanDisk (state g new) → (state g new).now ≡ (state g old).now

-- the tables of a store that is open are as they were
abbrev pub KeepsOpenTables : {S : Type 0} → store.Ghosts S → Held S → Held S → Type 0
KeepsOpenTables g old new =
    HasCleanDisk (state g new) → IsTrue (state g new).is_open
    → (state g new).now ≡ (state g old).now

-- the rows of a store that is open are as they were
abbrev pub KeepsOpenRows : {S : Type 0} → store.Ghosts S → Held S → Held S → Type 0
KeepsOpenRows g old new =
    HasCleanDisk (state g new) → IsTrue (state g new).is_open
    → (state g new).now.trees ≡ (state g old).now.trees

-- where the tables were made as those of a version that is known, and noted it, this holds of the
-- version
abbrev pub IfMadeAs : {S : Type 0} → store.Ghosts S → Held S → Held S → (KnownVersion → Type 0)
    → Type 0
IfMadeAs g old new Holds =
    HasCleanDisk (state g new) → (known : KnownVersion) → IsMadeAs known (state g old).now.schema
    → IsVersionOf (edition_of known) (state g old) → Holds known

-- the tables were of a version that is known, and are as they were, or, of version 1, are moved
abbrev pub WereKnown : {S : Type 0} → store.Ghosts S → Held S → Held S → Type 0
WereKnown g old new =
    HasCleanDisk (state g new)
    → (known : KnownVersion) × WereOf g known (state g old)
    × AreOpened known (state g old) (state g new)

-- the fault is why tables were not opened as a desk
pub record IsWhyUnopened {S : Type 0} (g : store.Ghosts S) (old : Held S) (why : OpenFault)
    (it : HandedBack S) : Type 0 where
  -- of tables that noted their version
  pub cause : IsCleanBack g it → NotesVersion (state g old).now.schema
      → IsOpenCause why (state g old)
  -- whatever the tables were, a later version is reported only where they showed one
  pub newer : IsCleanBack g it → why ≡ NewerVersion → ShowsLater g (state g old).now
  -- no fault says of whole tables that they are no desk's, or a later version's
  pub whole : IsCleanBack g it → (office : OfficeLists) → IsWholeDesk (state g old).now.trees office
      → (why ≡ Store) ⊎ (why ≡ Memory)

-- the tables are those of a desk that holds nothing; the database has the tables and the indexes of
-- a desk, and no others; and a crash leaves the tables of a new desk
abbrev pub HoldsNothing : {S : Type 0} → store.Ghosts S → Held S → Type 0
HoldsNothing g made =
    HasCleanDisk (state g made)
    → Stands (state g made) empty_office
    × ((state g made).now.schema ≡ desk_schema)
    × ((db : Trees) → (state g made).may_leave db → IsNewDesk db)

-- the office that tables of this version held is the one for which they stand now, and a crash
-- leaves it whole
abbrev pub StandsFor : State → State → KnownVersion → Type 0
StandsFor old new known =
    (office : OfficeLists)
    × (office_by (edition_of known) old.now.trees ≡ Some office) × Stands new office
    × LeavesWhole new office

-- where the tables were made as those of a version that is known, they stand for the office that
-- they held, and a crash leaves that office whole
abbrev pub StandsWhole : {S : Type 0} → store.Ghosts S → Held S → Held S → Type 0
StandsWhole g old new = IfMadeAs g old new (StandsFor (state g old) (state g new))

-- tables of version 1 that were opened stand for the office that they held, and a crash leaves it
-- whole
abbrev pub OpensFirst : {S : Type 0} → store.Ghosts S → Type 0
OpensFirst {S} g =
    (old new : Held S)
    → WereOf g One (state g old)
    → AreOpened One (state g old) (state g new)
    → StandsWhole g old new
    → HasCleanDisk (state g new)
    → StandsFor (state g old) (state g new) One

-- a crash leaves what it left before, or tables of version 1 moved
abbrev pub SurvivesMoving : {S : Type 0} → store.Ghosts S → Held S → Held S → Type 0
SurvivesMoving g old new = Survives (state g old) (state g new) (AreMoved g (state g old))

-- a crash leaves what it left before, or the tables that are made, whole
abbrev pub SurvivesMaking : {S : Type 0} → store.Ghosts S → Held S → Held S → Type 0
SurvivesMaking g old new = Survives (state g old) (state g new) (AreMade (state g old))
