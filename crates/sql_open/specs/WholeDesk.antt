-- Tables that are whole, as a crash may leave them and as `open` finds them.
use Rattle.std.specs.Prelude.{◌≡◌, [], ◌∷◌, Some, Result, OnOk, IsTrue}
use Rattle.sqlite.specs.Effect.{IsDatabase}
use Rattle.sqlite.specs.Held.{Held, state}
use Rattle.sqlite.specs.Schema.{Schema}
use Rattle.sqlite.specs.State.{State, HasCleanDisk, IsUnchanged, Survives}
use Rattle.sqlite.specs.Tree.{Trees}
use Rattle.sqlite_catalog.specs.Listing.{AreListed}
use Rattle.sqlite_trees.specs.Objects.{catalog_tree}
use Rattle.sqlite_trees.specs.declared.store.Store as store
use Rattle.desk_words.specs.Changes.{empty_office}
use Rattle.desk_words.specs.declared.office.OfficeLists.{OfficeLists}
use Rattle.desk_words.specs.Office.{is_office}
use Rattle.sql_schema.specs.Contents.{desk}
use Rattle.sql_schema.specs.Statements.{records_in}
use Rattle.sql_schema.specs.Tables.{desk_schema}
use Rattle.sql_model.specs.Standing.{Stands, office_by}
use Rattle.sql_open.specs.Known.{IsMadeAs, edition_of}
use Rattle.sql_open.specs.declared.version.KnownVersion.{KnownVersion}
use Rattle.sql_open.specs.declared.version.KnownVersion.TheVariants.{Two}

-- these tables are whole in this version, and they are this office: the database lists them as its
-- program makes them, they note the version, and what they hold is the office
pub record IsWholeAs (known : KnownVersion) (db : Trees) (office : OfficeLists) : Type 0 where
  pub schema : Schema
  pub listed : AreListed (db catalog_tree) schema
  pub declared : IsMadeAs known schema
  pub version : records_in desk db ≡ Some ((edition_of known).version ∷ [])
  pub holds : office_by (edition_of known) db ≡ Some office
  pub preserved : IsTrue (is_office office)

-- these tables are whole, and they are this office, in version 2, whatever stands beside them
abbrev pub IsWhole : Trees → OfficeLists → Type 0
IsWhole = IsWholeAs Two

-- these tables are whole in a version that is known, and they are this office
abbrev pub IsWholeDesk : Trees → OfficeLists → Type 0
IsWholeDesk db office = (known : KnownVersion) × IsWholeAs known db office

-- these tables are those of a new desk: whole, they hold nothing, and the database lists the desk's
-- tables and indexes, and no others
pub record IsNewDesk (db : Trees) : Type 0 where
  pub listed : AreListed (db catalog_tree) desk_schema
  pub whole : IsWhole db empty_office

-- whether the store is open is asked: nothing is changed, and a crash leaves what it left before
pub record AsksOpen {S T E : Type 0} (g : store.Ghosts S) (old new : Held S) (result : Result T E)
    : Type 0 where
  pub crash : Survives (state g old) (state g new) (λ _. ⊥)
  -- an open store was open before, and shows the same tables
  pub same : HasCleanDisk (state g new) → IsTrue (state g new).is_open
      → IsTrue (state g old).is_open × ((state g new).now ≡ (state g old).now)
  -- so it is answered only where the store is open; the database then lists its tables as they are
  -- declared
  pub still : HasCleanDisk (state g new)
      → OnOk result (IsUnchanged (state g old) (state g new) × IsDatabase (state g new).now)

-- a crash leaves this office whole, and nothing else
abbrev pub LeavesWhole : State → OfficeLists → Type 0
LeavesWhole s office = (db : Trees) → s.may_leave db → IsWhole db office

-- tables that were whole, in either version, are opened as their office, and a crash then leaves it
-- whole
abbrev pub OpensWhole : {S : Type 0} → store.Ghosts S → Held S → Held S → Type 0
OpensWhole g old new =
    HasCleanDisk (state g new) → (office : OfficeLists)
    → IsWholeDesk (state g old).now.trees office
    → Stands (state g new) office × LeavesWhole (state g new) office

-- what a crash leaves whole, `open` opens as that office: where a connection shows tables that a
-- crash may leave of a desk which it leaves whole
abbrev pub OpensAgain : {S : Type 0} → store.Ghosts S → Type 0
OpensAgain {S} g =
    (desk conn opened : Held S) (office : OfficeLists)
    → LeavesWhole (state g desk) office
    → (state g desk).may_leave (state g conn).now.trees
    → OpensWhole g conn opened
    → HasCleanDisk (state g opened)
    → Stands (state g opened) office
