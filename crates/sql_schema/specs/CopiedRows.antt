-- What the move to version 2 does to the rows of the tables of version 1.
use Rattle.std.specs.Prelude.{◌≡◌, pos, List, [], ◌∷◌, map, Some, IsTrue}
use Rattle.sqlite.specs.declared.types.Value.{Value}
use Rattle.sqlite.specs.declared.types.Value.TheVariants.{Int}
use Rattle.sqlite.specs.Effect.{IsDatabase}
use Rattle.sqlite.specs.Order.{Row}
use Rattle.sqlite.specs.State.{State}
use Rattle.sqlite.specs.Tree.{Trees, rowid}
use Rattle.sql_schema.specs.Statements.{DeclaresNothing, IsDesk, KeepsOthers, TableOf, records_in, table_rows}

-- the columns of a row of version 1, with the first session behind the meeting
abbrev pub in_first_session : Row → Row
in_first_session [] = []
in_first_session (meeting ∷ others) = meeting ∷ Int (pos 1) ∷ others

-- the numbers of the rows of a table, in their order
abbrev pub numbers_in : {A : Type 0} → TableOf A → Trees → List Value
numbers_in table trees = map rowid (trees table.number)

-- the rows of one table stand in the other, each with its number and in the first session
pub record Copied {A : Type 0} (one two : TableOf A) (old new : Trees) : Type 0 where
  pub numbers : numbers_in two new ≡ numbers_in one old
  pub rows : table_rows two new ≡ map in_first_session (table_rows one old)

-- where the rows of a table of version 1 mean something, they are copied into that table of version
-- 2, which had none, and nothing else is changed
pub record Copies {A : Type 0} (one two : TableOf A) (old new : State) : Type 0 where
  pub copied : (was : List A)
      → records_in one old.now.trees ≡ Some was
      → old.now.trees two.number ≡ []
      → Copied one two old.now.trees new.now.trees
  pub others : KeepsOthers two.number old new
  pub schema : DeclaresNothing old new
  pub desk : IsDesk new
  pub inside : IsTrue new.in_transaction
  pub sound : IsDatabase new.now
