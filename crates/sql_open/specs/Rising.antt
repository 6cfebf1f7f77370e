-- The numbers of the rows of tables rise.
use Rattle.std.specs.List.{AllByRecursion}
use Rattle.sqlite.specs.Files.{AreFoundIn}
use Rattle.sqlite.specs.Schema.{Schema}
use Rattle.sqlite.specs.State.{State}
use Rattle.sqlite.specs.Table.{Table}
use Rattle.sqlite.specs.Tree.{Trees}
use Rattle.sqlite_catalog.specs.Listing.{AreListed}
use Rattle.sqlite_trees.specs.Objects.{catalog_tree}
use Rattle.sqlite_wal.specs.Recovery.{Image}
use Rattle.sql_schema.specs.Statements.{IsRising}

-- the numbers of the rows of each table that is declared rise
abbrev pub Rise : Schema → Trees → Type 0
Rise declared trees = AllByRecursion (λ (t : Table). IsRising (trees t.tree)) declared.tables

-- the numbers of the rows of each table rise
abbrev pub RowsRise : State → Type 0
RowsRise s = Rise s.now.schema s.now.trees

-- they rise in the tables that files hold, whatever these declare
abbrev pub FoundRowsRise : Type 0
FoundRowsRise =
    (image : Image) (trees : Trees) (declared : Schema)
    → AreFoundIn image trees → AreListed (trees catalog_tree) declared → Rise declared trees
