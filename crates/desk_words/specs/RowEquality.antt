-- Laws of the words.
use Rattle.std.specs.Prelude.{List, ◌≡◌}
use Rattle.std.specs.Bool.{Decides}
use Rattle.desk_words.specs.SameRows.{same_rows}
use Rattle.desk_words.specs.declared.records.RegisterRow.{RegisterRow}

-- rows are the same, field by field, exactly where they are equal
abbrev pub SameRowsAreEqual : Type 0
SameRowsAreEqual = (a b : List RegisterRow) → Decides (same_rows a b) (a ≡ b)
