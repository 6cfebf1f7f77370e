-- What a crash leaves of a database that is opened, or handed back.
use Rattle.std.specs.Prelude.{◌≡◌, ◌↔◌, ◌⊎◌, Some}
use Rattle.sqlite.specs.Held.{Held, state}
use Rattle.sqlite.specs.State.{State, HasCleanDisk}
use Rattle.sqlite.specs.Tree.{Trees}
use Rattle.sqlite_trees.specs.declared.store.Store as store
use Rattle.desk_words.specs.declared.office.OfficeLists.{OfficeLists}
use Rattle.sql_model.specs.OfficeRecords.{office_one}
use Rattle.sql_model.specs.Standing.{Stands}
use Rattle.sql_open.specs.Known.{IsMadeAs, WereOf}
use Rattle.sql_open.specs.Opening.{IsCleanBack}
use Rattle.sql_open.specs.WholeDesk.{IsWhole, IsWholeAs, IsWholeDesk, OpensWhole}
use Rattle.sql_open.specs.declared.opening.HandedBack.{HandedBack}
use Rattle.sql_open.specs.declared.opening.HandedBack.TheVariants as back
use Rattle.sql_open.specs.declared.version.KnownVersion.TheVariants.{One}

-- a crash leaves the tables that are read, and nothing else
abbrev pub LeavesItself : State → Type 0
LeavesItself s = (db : Trees) → s.may_leave db ↔ (db ≡ s.now.trees)

-- what a crash may leave of what is handed back
abbrev pub may_leave_of : {S : Type 0} → store.Ghosts S → HandedBack S → Trees → Type 0
may_leave_of g (back.Connection conn) = (state g conn).may_leave
may_leave_of g (back.Store store) = g.recovers store

-- a crash leaves nothing of it that it did not leave before
abbrev pub LeavesNoMore : {S : Type 0} → store.Ghosts S → State → HandedBack S → Type 0
LeavesNoMore g old it = IsCleanBack g it → (db : Trees) → may_leave_of g it db → old.may_leave db

-- these tables are those of version 1, moved: those were made as its program makes them and held
-- an office, and these are whole of it
pub record AreMoved {S : Type 0} (g : store.Ghosts S) (old : State) (db : Trees) : Type 0 where
  pub were : WereOf g One old
  pub made : IsMadeAs One old.now.schema
  pub office : OfficeLists
  pub was : office_one old.now.trees ≡ Some office
  pub whole : IsWhole db office

-- a crash leaves nothing of it that it did not leave before, but for tables of version 1 moved
abbrev pub LeavesAtMostMoved : {S : Type 0} → store.Ghosts S → State → HandedBack S → Type 0
LeavesAtMostMoved g old it =
    IsCleanBack g it → (db : Trees) → may_leave_of g it db → old.may_leave db ⊎ AreMoved g old db

-- what a crash leaves of tables of version 1, or of them while they are moved, is opened as their
-- office: where they were whole of it, and a crash left it whole
abbrev pub OpensMoved : {S : Type 0} → store.Ghosts S → Type 0
OpensMoved {S} g =
    (desk conn opened : Held S) (office : OfficeLists)
    → IsWholeAs One (state g desk).now.trees office
    → ((db : Trees) → (state g desk).may_leave db → IsWholeDesk db office)
    → (state g desk).may_leave (state g conn).now.trees
    ⊎ AreMoved g (state g desk) (state g conn).now.trees
    → OpensWhole g conn opened
    → HasCleanDisk (state g opened)
    → Stands (state g opened) office
