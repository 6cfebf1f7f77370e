-- What is ensured where a change is written into the tables.
use Rattle.std.specs.Prelude.{◌≡◌, ℕ, suc, ◌==◌, Bool, true, List, [], ◌∷◌, ◌++◌, length, map, Some, Result, OnOk, IsTrue}
use Rattle.sqlite.specs.declared.error.Error.{Error}
use Rattle.sqlite.specs.Effect.{IsDatabase}
use Rattle.sqlite.specs.Held.{Held, state}
use Rattle.sqlite.specs.State.{State, HasCleanDisk, KeepsCommit, Survives}
use Rattle.sqlite_trees.specs.declared.store.Store as store
use Rattle.desk_words.specs.declared.change.Change.{Change}
use Rattle.desk_words.specs.declared.caller.KeyRow.{KeyRow}
use Rattle.desk_words.specs.declared.office.OfficeLists.{OfficeLists}
use Rattle.desk_words.specs.declared.records.RegisterRow.{RegisterRow}
use Rattle.desk_words.specs.declared.records.Resolution.{Resolution}
use Rattle.sql_rows.specs.declared.stored_records.InMeeting.{InMeeting}
use Rattle.sql_rows.specs.declared.stored_records.Numbered.{Numbered}
use Rattle.sql_model.specs.OfficeRecords.{FlatLists, flat_in, office_in}
use Rattle.sql_model.specs.Standing.{IsVersion}
use Rattle.sql_schema.specs.Statements.{DeclaresNothing, IsDesk}
use Rattle.desk_words.specs.Changes.{applied, can_make}

-- in a transaction the tables are those of a desk, of version 2, listed as they are declared, and
-- they are this office
pub record StandsIn (office : OfficeLists) (s : State) : Type 0 where
  pub desk : IsDesk s
  pub version : IsVersion s
  pub inside : IsTrue s.in_transaction
  pub sound : IsDatabase s.now
  pub means : office_in s.now.trees ≡ Some office

-- what writing a change ensures of tables that are an office
pub record Writes {S T : Type 0} (g : store.Ghosts S) (old new : Held S) (result : Result T Error)
    (change : Change) : Type 0 where
  -- where the office can make the change, and the disk returned what was written, they are then the
  -- office that it leaves, and nothing is declared
  pub written : HasCleanDisk (state g new) → (office : OfficeLists) → StandsIn office (state g old)
      → IsTrue (can_make office change)
      → OnOk result (StandsIn (applied office change) (state g new)
      × DeclaresNothing (state g old) (state g new))
  -- whatever is answered, nothing is committed
  pub preserved : HasCleanDisk (state g new) → KeepsCommit (state g old) (state g new)
  -- and a crash leaves what it left before
  pub crash : Survives (state g old) (state g new) (λ _. ⊥)

-- ---- statements one after another

-- in a transaction the tables are those of a desk, of version 2, listed as they are declared, and
-- hold these records
pub record HoldsRecords (flat : FlatLists) (s : State) : Type 0 where
  pub desk : IsDesk s
  pub version : IsVersion s
  pub inside : IsTrue s.in_transaction
  pub sound : IsDatabase s.now
  pub means : flat_in s.now.trees ≡ Some flat

-- what statements ensure of tables whose records pass a test
pub record Rewrites {S T : Type 0} (g : store.Ghosts S) (old new : Held S) (result : Result T Error)
    (test : FlatLists → Bool) (change : FlatLists → FlatLists) : Type 0 where
  -- where the disk returned what was written, the records are then changed, and nothing is declared
  pub done : HasCleanDisk (state g new) → (flat : FlatLists) → HoldsRecords flat (state g old)
      → IsTrue (test flat)
      → OnOk result (HoldsRecords (change flat) (state g new)
      × DeclaresNothing (state g old) (state g new))
  -- whatever is answered, nothing is committed
  pub preserved : HasCleanDisk (state g new) → KeepsCommit (state g old) (state g new)
  -- and a crash leaves what it left before
  pub crash : Survives (state g old) (state g new) (λ _. ⊥)

-- whatever the records are
abbrev pub any_records : FlatLists → Bool
any_records flat = true

-- there are no closed days
abbrev pub no_days : FlatLists → Bool
no_days flat = length flat.closed == 0

-- ---- the records that are added

-- the records of a meeting
abbrev pub all_in : {A : Type 0} → List ℕ → List A → List (InMeeting A)
all_in id items = map (λ item. record { meeting = id; item = item }) items

-- the resolutions of a notice with their numbers, which go on from a number
abbrev pub numbered_on : ℕ → List Resolution → List (Numbered Resolution)
numbered_on n [] = []
numbered_on n (r ∷ rest) = record { number = n; item = r } ∷ numbered_on (suc n) rest

-- the resolutions of a meeting, numbered from 1, behind those of the others
abbrev pub resolutions_added : List ℕ → List Resolution → FlatLists → FlatLists
resolutions_added id resolutions flat =
    record flat { resolutions = flat.resolutions ++ all_in id (numbered_on 1 resolutions) }

-- the rows of a meeting's register behind the others
abbrev pub rows_added : List ℕ → List RegisterRow → FlatLists → FlatLists
rows_added id rows flat = record flat { register = flat.register ++ all_in id rows }

-- keys behind the others
abbrev pub keys_added : List KeyRow → FlatLists → FlatLists
keys_added keys flat = record flat { keys = flat.keys ++ keys }

-- closed days behind the others
abbrev pub days_added : List ℕ → FlatLists → FlatLists
days_added days flat = record flat { closed = flat.closed ++ days }
