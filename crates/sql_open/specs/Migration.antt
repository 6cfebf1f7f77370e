-- How tables of version 1 become those of version 2.
use Rattle.std.specs.Prelude.{◌≡◌, Some, Result, OnOk, IsTrue}
use Rattle.sqlite.specs.declared.error.Error.{Error}
use Rattle.sqlite.specs.Effect.{IsDatabase}
use Rattle.sqlite.specs.Held.{Held, state}
use Rattle.sqlite.specs.State.{State, HasCleanDisk}
use Rattle.sqlite_trees.specs.declared.store.Store as store
use Rattle.sql_schema.specs.Contents as table
use Rattle.sql_schema.specs.Contents.{presences, demands, polls}
use Rattle.sql_schema.specs.Contents.{presences_before_sessions, demands_before_sessions, polls_before_sessions}
use Rattle.sql_schema.specs.CopiedRows.{Copies}
use Rattle.sql_schema.specs.Statements.{CommitsNothing, Empties, IsDesk, IsDeskOf, layout_one}
use Rattle.sql_schema.specs.Tables.{desk_schema, demands_before_sessions_table, polls_before_sessions_table, presences_before_sessions_table, schema_one}
use Rattle.sql_meeting_tables.specs.Copying.{CopiesTyped}
use Rattle.sql_model.specs.MigratedRecords.{IsMoved}
use Rattle.sql_model.specs.OfficeRecords.{FlatLists, flat_one, flat_two}
use Rattle.sql_model.specs.Standing.{IsVersion, IsVersionOf, one}

-- the tables and indexes are those of version 1, as its program made them, and no others; the
-- numbers of their rows rise, they note their version, and they obey their declarations
pub record IsFirst (s : State) : Type 0 where
  pub desk : IsDeskOf layout_one s
  pub schema : s.now.schema ≡ schema_one
  pub version : IsVersionOf one s
  pub sound : IsDatabase s.now

-- in a transaction the tables and indexes are those of version 2, and no others, listed as they are
-- declared, and they note their version; where the rows of version 1 meant something, they are
-- moved; and they did so where those of version 2 mean something
pub record IsSecond (old new : State) : Type 0 where
  pub desk : IsDesk new
  pub schema : new.now.schema ≡ desk_schema
  pub version : IsVersion new
  pub inside : IsTrue new.in_transaction
  pub sound : IsDatabase new.now
  pub moved : (flat : FlatLists) → flat_one old.now.trees ≡ Some flat → IsMoved old new
  pub meant : (flat : FlatLists) → flat_two new.now.trees ≡ Some flat
      → flat_one old.now.trees ≡ Some flat

-- in a transaction tables of version 1 become those of version 2, where the disk returned what was
-- written; and whatever is answered, nothing is committed
pub record MovesTables {S T : Type 0} (g : store.Ghosts S) (old new : Held S)
    (result : Result T Error) : Type 0 where
  pub moved : HasCleanDisk (state g new) → IsTrue (state g old).in_transaction
      → IsFirst (state g old) → OnOk result (IsSecond (state g old) (state g new))
  pub commits : CommitsNothing g old new

-- ---- statements one after another

-- presences, demands and polls are copied: where the rows of version 1 mean something, and where
-- they obey their declarations
pub record CopiesAll {S : Type 0} (g : store.Ghosts S) (old new : Held S) : Type 0 where
  pub first : Held S
  pub second : Held S
  pub presences : Copies presences_before_sessions presences (state g old) (state g first)
  pub demands : Copies demands_before_sessions demands (state g first) (state g second)
  pub polls : Copies polls_before_sessions polls (state g second) (state g new)
  pub presences_typed
      : CopiesTyped presences_before_sessions_table presences_before_sessions table.presences
      (state g old) (state g first)
  pub demands_typed
      : CopiesTyped demands_before_sessions_table demands_before_sessions table.demands
      (state g first) (state g second)
  pub polls_typed : CopiesTyped polls_before_sessions_table polls_before_sessions table.polls
      (state g second) (state g new)

-- no row of version 1 is left of them
pub record EmptiesAll {S : Type 0} (g : store.Ghosts S) (old new : Held S) : Type 0 where
  pub first : Held S
  pub second : Held S
  pub presences : Empties presences_before_sessions (state g old) (state g first)
  pub demands : Empties demands_before_sessions (state g first) (state g second)
  pub polls : Empties polls_before_sessions (state g second) (state g new)

-- where statements are answered in a transaction over the tables of a desk, and the disk returned
-- what was written, this is what they did
abbrev pub DoesAll : {S T : Type 0} → store.Ghosts S → Held S → Held S → Result T Error → Type 0
    → Type 0
DoesAll g old new result Effect =
    HasCleanDisk (state g new) → IsTrue (state g old).in_transaction → IsDesk (state g old)
    → OnOk result Effect
