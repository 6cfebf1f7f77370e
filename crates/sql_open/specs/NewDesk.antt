-- How the tables of a desk are made.
use Rattle.std.specs.Prelude.{◌≡◌, Result, OnOk, IsTrue}
use Rattle.sqlite.specs.declared.error.Error.{Error}
use Rattle.sqlite.specs.Effect.{IsDatabase}
use Rattle.sqlite.specs.Held.{Held, state}
use Rattle.sqlite.specs.State.{State, HasCleanDisk, KeepsCommit, Survives}
use Rattle.sqlite.specs.Tree.{Trees}
use Rattle.sqlite_trees.specs.declared.store.Store as store
use Rattle.desk_words.specs.Changes.{empty_office}
use Rattle.sql_schema.specs.Statements.{AreEmpty}
use Rattle.sql_schema.specs.Tables.{desk_schema, no_schema}
use Rattle.sql_model.specs.Standing.{Stands}
use Rattle.sql_open.specs.WholeDesk.{IsNewDesk}

-- in a transaction over a database without tables, the tables of a desk that holds nothing are made
-- with their indexes, and no others, and nothing is committed
pub record LeavesEmptyDesk {S T : Type 0} (g : store.Ghosts S) (old new : Held S)
    (result : Result T Error) : Type 0 where
  pub made : HasCleanDisk (state g new) → IsTrue (state g old).in_transaction
      → AreEmpty no_schema (state g old)
      → OnOk result (Stands (state g new) empty_office
      × ((state g new).now.schema ≡ desk_schema)
      × IsDatabase (state g new).now
      × IsTrue (state g new).in_transaction)
  pub preserved : HasCleanDisk (state g new) → KeepsCommit (state g old) (state g new)
  pub crash : Survives (state g old) (state g new) (λ _. ⊥)

-- in a database that had no table, these are the tables of a new desk
abbrev pub AreMade : State → Trees → Type 0
AreMade old db = old.now.schema ≡ no_schema → IsNewDesk db
