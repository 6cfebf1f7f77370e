-- What is copied of a table of version 1, whatever its rows mean.
use Rattle.std.specs.Prelude.{◌≡◌, true, [], drop, List}
use Rattle.std.specs.List.{AllByRecursion}
use Rattle.sqlite.specs.Order.{Row}
use Rattle.sqlite.specs.State.{State}
use Rattle.sqlite.specs.Table.{Table}
use Rattle.sqlite_schema.specs.Rules.{are_typed}
use Rattle.sql_schema.specs.CopiedRows.{Copied}
use Rattle.sql_schema.specs.Statements.{TableOf}

-- each value of the rows is of the type of its column
abbrev pub AreTyped : Table → List Row → Type 0
AreTyped table rows =
    AllByRecursion (λ row. are_typed table.key 0 table.columns (drop 1 row) ≡ true) rows

-- where the rows of a table of version 1 obey its declaration, they are copied into that table of
-- version 2, which had none
abbrev pub CopiesTyped : {A : Type 0} → Table → TableOf A → TableOf A → State → State → Type 0
CopiesTyped declared one two old new =
    AreTyped declared (old.now.trees one.number)
    → old.now.trees two.number ≡ []
    → Copied one two old.now.trees new.now.trees
