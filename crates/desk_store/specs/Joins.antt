-- How calls on one desk join: what each leaves is what the next finds.
use Rattle.std.specs.Prelude.{Option, IsTrue, false}
use Rattle.sqlite.specs.Held.{Held, state}
use Rattle.sqlite.specs.State.{State, HasCleanDisk, KeepsCounts, Shows}
use Rattle.sqlite.specs.Tree.{Trees}
use Rattle.sqlite_trees.specs.declared.store.Store as store
use Rattle.any_office.specs.StoredOffice as home
use Rattle.desk_words.specs.declared.office.OfficeLists.{OfficeLists}
use Rattle.desk_words.specs.declared.request.Call.{Call}
use Rattle.sql_open.specs.WholeDesk.{IsWhole}
use Rattle.sql_model.specs.Standing.{Stands}
use Rattle.sql_schema.specs.Statements.{IsDesk}
use Rattle.meeting_core.specs.Step.{stepped}

-- what is left of a desk after a call was made, or none: no failure is made good, so a clean disk
-- was clean before, and an open store was open before; only a fault of the disk in the call shuts
-- the store; and where the tables stood for an office they stand for it after the call
abbrev pub LeavesDesk : {S : Type 0} → store.Ghosts S → Option Call → Held S → Held S → Type 0
LeavesDesk g =
    home.IsTransition (λ desk. HasCleanDisk (state g desk)) (λ desk. IsTrue (state g desk).is_open)
    (λ desk office. Stands (state g desk) office) (λ desk. (state g desk).faults)

-- the tables are the same, and so is the last commit; no row was counted as written
abbrev pub IsAsItWas : State → State → Type 0
IsAsItWas old new = Shows old new old.now old.committed false × KeepsCounts old new

-- the store is open, and these tables are whole the office after the step of a call: no other
-- tables are committed by it, and a store that is shut commits nothing
abbrev pub AreAfter : State → Call → Trees → Type 0
AreAfter old call db =
    IsTrue old.is_open
    × ((office : OfficeLists) → Stands old office → IsWhole db (stepped office call))

-- where the store is open, the tables are those of a desk
abbrev pub IsDeskIfOpen : State → Type 0
IsDeskIfOpen s = IsTrue s.is_open → IsDesk s
