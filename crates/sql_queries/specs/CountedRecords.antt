-- How many records a query counted.
use Rattle.std.specs.Prelude.{◌≡◌, Bool, List, filter, length, Some}
use Rattle.sqlite.specs.Held.{Held, state}
use Rattle.sqlite.specs.Order.{Row}
use Rattle.sqlite.specs.State.{IsUnchanged}
use Rattle.sqlite_trees.specs.declared.store.Store as store
use Rattle.sql_lemmas.specs.CountedRows.{count_rows}
use Rattle.sql_schema.specs.Statements.{TableOf, records_in}

-- these rows count the records of a table that pass the test, and nothing is changed
abbrev pub CountsRecords : {S A : Type 0} → store.Ghosts S → Held S → Held S → TableOf A
    → (A → Bool) → List Row → Type 0
CountsRecords {S} {A} g old new table test rows =
    ((was : List A)
    → records_in table (state g old).now.trees ≡ Some was
    → rows ≡ count_rows (length (filter test was)))
    × IsUnchanged (state g old) (state g new)
