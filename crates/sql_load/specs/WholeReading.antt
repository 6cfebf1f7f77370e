-- What a reading gives.
use Rattle.std.specs.Prelude.{Bool, Option, Result, OnOk}
use Rattle.sqlite.specs.Held.{Held, state}
use Rattle.sqlite.specs.State.{IsUnchanged}
use Rattle.sqlite.specs.Tree.{Trees}
use Rattle.sqlite_trees.specs.declared.store.Store as store
use Rattle.sql_schema.specs.Statements.{ChangesNothing, IsRead}
use Rattle.sql_load.specs.LoadResults.{ReadAgrees}
use Rattle.sql_load.specs.declared.fault.LoadError.{LoadError}

-- in a transaction over the tables of a desk this is what they say, and nothing is changed
pub record IsReading {S X : Type 0} (g : store.Ghosts S) (old new : Held S) (right : X → Bool)
    (result : Result X LoadError) (said : Trees → Option X) : Type 0 where
  pub holds : IsRead g old new → ReadAgrees right result (said (state g old).now.trees)
  pub same : IsRead g old new → OnOk result (IsUnchanged (state g old) (state g new))
  pub changes : ChangesNothing g old new
