-- How many rows a table has, as a statement shows it.
use Rattle.std.specs.Prelude.{◌≡◌, ℕ, min, pos, List, [], ◌∷◌, length}
use Rattle.sqlite.specs.Held.{Held, state}
use Rattle.sqlite.specs.Order.{Row}
use Rattle.sqlite.specs.State.{IsUnchanged}
use Rattle.sqlite.specs.declared.types.Value.TheVariants.{Int}
use Rattle.sqlite_trees.specs.declared.store.Store as store
use Rattle.sql_schema.specs.Statements.{TableOf}

-- a count, of which none is above 2^63 - 1
abbrev pub most : ℕ → ℕ
most count = min count 9223372036854775807

-- the one row of a count
abbrev pub count_rows : ℕ → List Row
count_rows count = (Int (pos (most count)) ∷ []) ∷ []

-- these rows count those of a table, and nothing is changed
abbrev pub CountsRows : {S A : Type 0} → store.Ghosts S → Held S → Held S → TableOf A → List Row
    → Type 0
CountsRows g old new table rows =
    (rows ≡ count_rows (length ((state g old).now.trees table.number)))
    × IsUnchanged (state g old) (state g new)
