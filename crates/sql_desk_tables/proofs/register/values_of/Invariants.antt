use Rattle.std.proofs.Common.{◌≡◌, ℕ, List, ◌∷◌, Some, flat_map, take}
use Rattle.sqlite.specs.Values.{bound}
use Rattle.sqlite.specs.declared.types.Value.TheVariants.{Text}
use Rattle.vocabulary.specs.Names.{meeting_of}
use Rattle.sql_desk_tables.specs.Together.{EachMeans, RowValues, values_row}
use Rattle.sql_desk_tables.proofs.register.values_of.Given as goal

abbrev pub invariant-loop-row : goal.invariant-loop-row
invariant-loop-row l = (name : List ℕ) × (each : List RowValues) × (bound l.values.items ≡ Text name ∷ flat_map values_row each)
    × (meeting_of name ≡ Some l.meeting) × EachMeans each (take l.row-index l.rows)
