-- The rows of the tables of a desk rise, as a store that was opened has them.
use Rattle.std.proofs.Common.{◌≡◌, ℕ, List, [], ◌∷◌, sym, subst}
use Rattle.std.specs.List.{AllByRecursion}
use Rattle.sqlite.specs.Schema.{Schema}
use Rattle.sqlite.specs.State.{State}
use Rattle.sqlite.specs.Table.{Table}
use Rattle.sqlite.specs.Tree.{Trees}
use Rattle.sqlite_trees.specs.View.{View, IsOrdered, IsShaped}
use Rattle.sqlite_trees.specs.Objects.{IsListed, catalog_tree}
use Rattle.sqlite_trees.specs.declared.store.Shape.{Shape}
use Rattle.sqlite_trees.specs.declared.store.Shape.TheVariants as shape
use Rattle.sqlite_catalog.specs.Listing.{AreListed}
use Rattle.sqlite_catalog.proofs.LayoutLemmas.{laid_out}
use Rattle.sql_schema.specs.Statements.{HasTables, IsDeclared, IsDesk, IsDeskOf, IsRising, layout_one}
use Rattle.sql_lemmas.proofs.Frames.{of_tables, of_tree, ones_apart, twos_apart}
use Rattle.sql_desk_tables.specs.Versions.{AreNoted, NotesVersion}
use Rattle.sql_open.specs.Rising.{Rise, RowsRise}

-- each tree of a table is ordered as a table's is
all_shaped : (shapes : ℕ → Shape) (trees : Trees) (tables : List Table) → IsOrdered shapes trees → AllByRecursion (λ (t : Table). shapes t.tree ≡ shape.Table) tables
    → AllByRecursion (λ (t : Table). IsRising (trees t.tree)) tables
all_shaped shapes trees [] ordered all = tt
all_shaped shapes trees (t ∷ tables) ordered all = (subst (λ s. IsShaped s (trees t.tree)) all.0 (ordered t.tree), all_shaped shapes trees tables ordered all.1)

-- the rows of each table rise where the trees are ordered as they are listed
pub risen_by : (shapes : ℕ → Shape) (reals : ℕ → ℕ) (trees : Trees) (declared : Schema) → IsListed (trees catalog_tree) shapes reals → IsOrdered shapes trees → AreListed (trees catalog_tree) declared → Rise declared trees
risen_by shapes reals trees declared listed ordered are =
    let shaped = subst (λ s. IsShaped s (trees catalog_tree)) listed.itself.0 (ordered catalog_tree) in
    let laid = laid_out listed shaped are in
    all_shaped shapes trees declared.tables ordered laid.tables

-- the rows of each table rise, whatever tables there are
pub risen : (v : View) (s : State) → s.now.trees ≡ v.trees → IsListed (v.trees catalog_tree) v.shape v.reals → IsOrdered v.shape v.trees → AreListed (s.now.trees catalog_tree) s.now.schema → RowsRise s
risen v s same listed ordered are =
    subst (Rise s.now.schema) (sym same) (risen_by v.shape v.reals v.trees s.now.schema listed ordered (subst (λ (t : Trees). AreListed (t catalog_tree) s.now.schema) same are))

-- tables that are declared as a desk's, and whose rows rise, are a desk's
pub are_a_desk : (s : State) → IsDeclared s → RowsRise s → IsDesk s
are_a_desk s has rise = record {
  schema = has;
  rising = of_tables (twos_apart s.now.schema has) (λ n. IsRising (s.now.trees n)) rise;
}

-- and those that are declared as in version 1 are a desk's of that version
pub are_a_desk_one : (s : State) → HasTables layout_one s.now.schema → RowsRise s → IsDeskOf layout_one s
are_a_desk_one s has rise = record {
  schema = has;
  rising = of_tables (ones_apart s.now.schema has) (λ n. IsRising (s.now.trees n)) rise;
}

-- so do those of the table that notes the version
pub are_noted : (s : State) → NotesVersion s.now.schema → RowsRise s → AreNoted s
are_noted s noted rise = record { noted = noted; rising = of_tree (λ n. IsRising (s.now.trees n)) s.now.schema.tables 0 rise noted.table }
