-- The cache of a desk: callers by their keys, and public records of meetings.
use Rattle.std.specs.Prelude.{◌≡◌, ℕ, List, Option, Some, None, All, IfSome, IsTrue, false}
use Rattle.std.specs.BTreeMap.{BTreeMap, get}
use Rattle.sqlite.specs.Held.{Held, state}
use Rattle.sqlite.specs.State.{HasCleanDisk}
use Rattle.sqlite_trees.specs.declared.store.Store as store
use Rattle.vocabulary.specs.Names.{name_cmp}
use Rattle.desk_words.specs.ViewTypes.{MeetingName}
use Rattle.desk_words.specs.declared.caller.Caller.{Caller}
use Rattle.desk_words.specs.declared.caller.Caller.TheVariants as caller
use Rattle.desk_words.specs.declared.request.Request.{Request}
use Rattle.desk_words.specs.declared.request.Request.TheVariants as asked
use Rattle.desk_words.specs.declared.office.OfficeLists.{OfficeLists}
use Rattle.meeting_core.specs.KeyHolders.{caller_with}
use Rattle.sql_model.specs.Standing.{Stands}
use Rattle.sql_open.specs.Crashes.{LeavesItself}
use Rattle.sql_open.specs.WholeDesk.{LeavesWhole}
use Rattle.sql_schema.specs.Tables.{desk_schema}
use Rattle.desk_deciding.specs.CachedRecords.{IsRecordOf}
use Rattle.desk_cache.specs.declared.cache.Cache.{Cache}

-- these callers have these keys
abbrev pub AreCallersOf : OfficeLists → BTreeMap (List ℕ) Caller → Type 0
AreCallersOf office callers =
    (key : List ℕ)
    → IfSome (get name_cmp callers key) (λ caller. caller_with office.keys key ≡ Some caller)

-- what the cache has is so in an office
pub record IsCacheOf (office : OfficeLists) (cache : Cache) : Type 0 where
  pub callers : AreCallersOf office cache.callers
  pub records : All (IsRecordOf office) cache.records.items

-- what was asked last was answered: no transaction is open and the store is, and a crash leaves the
-- tables that are read, the office for which they stand, whole, and nothing else
pub record WasAnswered {S : Type 0} (g : store.Ghosts S) (desk : Held S) : Type 0 where
  pub ended : desk.in_transaction ≡ false
  pub is_open : HasCleanDisk (state g desk) → IsTrue (state g desk).is_open
  pub settled : HasCleanDisk (state g desk) → LeavesItself (state g desk)
  pub whole : HasCleanDisk (state g desk) → (office : OfficeLists)
      → Stands (state g desk) office → LeavesWhole (state g desk) office

-- the tables of a store that is open stand for an office
abbrev pub StandsIfOpen : {S : Type 0} → store.Ghosts S → Held S → Type 0
StandsIfOpen g desk =
    HasCleanDisk (state g desk) → IsTrue (state g desk).is_open
    → (office : OfficeLists) × Stands (state g desk) office

-- tables that are declared as those of a new desk stand for an office
abbrev pub StandsIfMade : {S : Type 0} → store.Ghosts S → Held S → Type 0
StandsIfMade g desk =
    HasCleanDisk (state g desk) → (state g desk).now.schema ≡ desk_schema
    → (office : OfficeLists) × Stands (state g desk) office

-- what the cache has is so in the office for which the tables stand, and what was asked last was
-- answered
pub record IsValid {S : Type 0} (g : store.Ghosts S) (desk : Held S) (cache : Cache) : Type 0 where
  pub answered : WasAnswered g desk
  pub stands : StandsIfOpen g desk
  pub agrees : HasCleanDisk (state g desk) → (office : OfficeLists) → Stands (state g desk) office
      → IsCacheOf office cache

-- so it is where there is a cache
abbrev pub IsValidIfAny : {S : Type 0} → store.Ghosts S → Held S → Option Cache → Type 0
IsValidIfAny g desk None = Unit {0}
IsValidIfAny g desk (Some cache) = IsValid g desk cache

-- the meeting in which a party asks something
abbrev pub asked_in : Caller → Request → Option MeetingName
asked_in (caller.Party party) (asked.Party meeting what) = Some meeting
asked_in who request = None
