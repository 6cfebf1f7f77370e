-- How tables are made of tables.
use Rattle.std.specs.Prelude.{Result}
use Rattle.sqlite.specs.declared.error.Error.{Error}
use Rattle.sqlite.specs.Held.{Held}
use Rattle.sqlite.specs.Schema.{Schema}
use Rattle.sqlite_trees.specs.declared.store.Store as store
use Rattle.sql_schema.specs.Statements.{CommitsNothing, Makes}

-- in a transaction the tables of the first schema become those of the second, with their rows, and
-- nothing is committed
pub record IsMaking {S T : Type 0} (g : store.Ghosts S) (old new : Held S) (result : Result T Error)
    (before after : Schema) : Type 0 where
  pub made : Makes g old new result before after
  pub commits : CommitsNothing g old new
