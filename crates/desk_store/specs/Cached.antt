-- Public records of meetings that are cached, and what of a cache is valid after a change.
use Rattle.std.specs.Prelude.{List, Option, Some, None, All, true, false}
use Rattle.sqlite.specs.Held.{Held, state}
use Rattle.sqlite.specs.State.{HasCleanDisk}
use Rattle.sqlite_trees.specs.declared.store.Store as store
use Rattle.desk_words.specs.declared.change.Change.{Change}
use Rattle.desk_words.specs.declared.change.Change.TheVariants.{InMeeting, SetKeys}
use Rattle.desk_words.specs.declared.change.MeetingChange.TheVariants.{Enter}
use Rattle.desk_words.specs.declared.office.OfficeLists.{OfficeLists}
use Rattle.sql_model.specs.Standing.{Stands}
use Rattle.desk_deciding.specs.CachedRecords.{IsRecordOf}
use Rattle.desk_deciding.specs.declared.cached.CachedRecord.{CachedRecord}
use Rattle.desk_store.specs.declared.cached.StillValid.{StillValid}

-- these are public records of the office for which the tables stand
abbrev pub AreRecordsOf : {S : Type 0} → store.Ghosts S → Held S → List CachedRecord → Type 0
AreRecordsOf g desk cached =
    HasCleanDisk (state g desk) → (office : OfficeLists) → Stands (state g desk) office
    → All (IsRecordOf office) cached

-- what of a cache is valid after a change: what is entered into a meeting's lists is not public
abbrev pub valid_after : Option Change → StillValid
valid_after None = record { records = true; callers = true }
valid_after (Some (InMeeting id (Enter entry))) = record { records = true; callers = true }
valid_after (Some (SetKeys rows)) = record { records = true; callers = false }
valid_after (Some other) = record { records = false; callers = true }
