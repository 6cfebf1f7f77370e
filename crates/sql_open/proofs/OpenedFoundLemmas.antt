-- The rows of the tables that files hold rise.
use Rattle.std.proofs.Common.{◌≡◌, ℕ, true, List, [], ◌∷◌, inl, inr, sym, subst, filter}
use Rattle.std.proofs.Math.Logic.{∥∥₁_elim}
use Rattle.std.specs.List.{AllByRecursion, AllZip}
use Rattle.sqlite.specs.Schema.{Schema}
use Rattle.sqlite.specs.Table.{Table}
use Rattle.sqlite.specs.Tree.{Trees}
use Rattle.sqlite_catalog.specs.Listing.{AreListed, IsTableRow, is_table_row}
use Rattle.sqlite_pages.specs.PageMap.{PageMap}
use Rattle.sqlite_pool.specs.File.{in_use, version_in}
use Rattle.sqlite_store.proofs.ListingLemmas.{all_ordered}
use Rattle.sqlite_store.specs.Listed.{catalog_rows, is_listed}
use Rattle.sqlite_store.specs.Listing.{IsOurs, all_reals, all_shapes, file_trees}
use Rattle.sqlite_store.specs.declared.catalog.Wanted.{Wanted}
use Rattle.sqlite_trees.specs.Objects.{IsListed, catalog_tree}
use Rattle.sqlite_trees.specs.Props.{AllByRecursion-prop, IsShaped-prop}
use Rattle.sqlite_trees.specs.declared.store.Shape.TheVariants as shape
use Rattle.sql_schema.specs.Statements.{IsRising}
use Rattle.sql_open.specs.Rising.{FoundRowsRise, Rise}
use Rattle.sql_open.proofs.RisingLemmas.{risen_by}

rise_one_way : (declared : Schema) (trees : Trees) → IsProp (Rise declared trees)
rise_one_way declared trees = AllByRecursion-prop (λ (t : Table). IsRising (trees t.tree)) (λ t. IsShaped-prop shape.Table (trees t.tree)) declared.tables

-- in a sound file
of_file : (size : ℕ) (wanted : List Wanted) (pages : PageMap) (declared : Schema) → IsOurs size true wanted pages → AreListed (file_trees size wanted pages catalog_tree) declared → Rise declared (file_trees size wanted pages)
of_file size wanted pages declared ours are =
    let listed : IsListed (file_trees size wanted pages catalog_tree) (all_shapes wanted) (all_reals wanted) =
    subst (λ rows. IsListed rows (all_shapes wanted) (all_reals wanted)) (sym (catalog_rows size wanted (in_use size pages))) (is_listed wanted) in
    risen_by (all_shapes wanted) (all_reals wanted) (file_trees size wanted pages) declared listed (all_ordered ours.file.db (version_in pages)) are

-- no table is declared where nothing is listed
none_listed : (trees : Trees) (declared : Schema) → trees catalog_tree ≡ [] → AreListed (trees catalog_tree) declared → Rise declared trees
none_listed trees declared none are = go declared.tables (subst (λ rows. AllZip IsTableRow (filter is_table_row rows) declared.tables) none are.tables)
  where
    go : (tables : List Table) → AllZip IsTableRow [] tables → AllByRecursion (λ (t : Table). IsRising (trees t.tree)) tables
    go [] h = tt
    go (t ∷ tables) h = absurd h

pub found_rise : FoundRowsRise
found_rise image trees declared (inl it) are =
    ∥∥₁_elim it.4 (rise_one_way declared trees) (λ ours.
    subst (λ (found : Trees). AreListed (found catalog_tree) declared → Rise declared found) (sym it.5) (of_file it.0 it.2 it.1 declared ours) are)
found_rise image trees declared (inr it) are = none_listed trees declared it.1.1 are
