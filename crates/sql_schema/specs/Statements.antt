-- What the statements do to the rows of the tables.
use Rattle.std.specs.Prelude.{◌≡◌, ◌≢◌, ℕ, Bool, false, ◌==◌, List, [], ◌∷◌, ◌++◌, drop, length, map, filter, not, Option, Some, Result, OnOk, IsTrue}
use Rattle.std.specs.List.{AllByRecursion, list_all, list_any}
use Rattle.sqlite.specs.declared.error.Error.{Error}
use Rattle.sqlite.specs.Change.{KeepsRows}
use Rattle.sqlite.specs.Effect.{IsDatabase}
use Rattle.sqlite.specs.Order.{Row, column}
use Rattle.sqlite.specs.Tree.{Trees}
use Rattle.sqlite.specs.Table.{Table}
use Rattle.sqlite.specs.Schema.{Schema}
use Rattle.sqlite.specs.View.{IsShaped}
use Rattle.sqlite.specs.State.{State, HasCleanDisk, Survives, KeepsCommit, IsUnchanged}
use Rattle.sqlite.specs.Held.{Held, state}
use Rattle.sqlite_trees.specs.declared.store.Shape.TheVariants as shape
use Rattle.sqlite_trees.specs.declared.store.Store as store
use Rattle.sql_rows.specs.Meanings.{all_meanings}
use Rattle.sql_schema.specs.Tables.{desk_schema, schema_one}

-- a version of the tables: how they are declared, and the numbers by which the database knows those
-- of the desk, in the order in which they are made
pub record Layout : Type 0 where
  pub schema : Schema
  pub numbers : List ℕ

-- version 1
abbrev pub layout_one : Layout
layout_one = record {
  schema = schema_one;
  numbers = 0 ∷ 1 ∷ 4 ∷ 5 ∷ 8 ∷ 10 ∷ 12 ∷ 14 ∷ 16 ∷ 18 ∷ 20 ∷ 22 ∷ 24 ∷ [];
}

-- version 2, which the desk makes and reads: the tables of version 1, and four more
abbrev pub layout_two : Layout
layout_two = record {
  schema = desk_schema;
  numbers = layout_one.numbers ++ 29 ∷ 31 ∷ 33 ∷ 35 ∷ [];
}

-- a table of the desk has this number
abbrev pub has_table : Layout → ℕ → Bool
has_table layout number = list_any (λ n. n == number) layout.numbers

-- the rows have numbers, which rise
abbrev pub IsRising : List Row → Type 0
IsRising = IsShaped shape.Table

-- the table has the number of no table of the desk
abbrev pub is_other : Layout → Table → Bool
is_other layout t = not (has_table layout t.tree)

-- the tables of this version stand first, as they are declared; others may stand behind them, and
-- any indexes and views beside
pub record HasTables (layout : Layout) (s : Schema) : Type 0 where
  pub others : List Table
  pub tables : s.tables ≡ layout.schema.tables ++ others
  pub apart : IsTrue (list_all (is_other layout) others)

-- the tables are a desk's, of this version, and the numbers of their rows rise
pub record IsDeskOf (layout : Layout) (s : State) : Type 0 where
  pub schema : HasTables layout s.now.schema
  pub rising : (number : ℕ) → IsTrue (has_table layout number) → IsRising (s.now.trees number)

-- a table: its number, the places of its columns in a row, and what these columns mean
pub record TableOf (A : Type 0) : Type 0 where
  pub number : ℕ
  pub columns : List ℕ
  pub means : Row → Option A

-- the columns of a row
abbrev pub columns_of : {A : Type 0} → TableOf A → Row → Row
columns_of table row = map (column row) table.columns

-- the columns of each row of a table, in the order of the rows
abbrev pub table_rows : {A : Type 0} → TableOf A → Trees → List Row
table_rows table trees = map (columns_of table) (trees table.number)

-- what the rows of a table mean
abbrev pub records_in : {A : Type 0} → TableOf A → Trees → Option (List A)
records_in table trees = all_meanings table.means (table_rows table trees)

-- the other tables keep their rows
abbrev pub KeepsOthersIn : Layout → ℕ → State → State → Type 0
KeepsOthersIn layout changed old new =
    (number : ℕ) → IsTrue (has_table layout number) → number ≢ changed
    → new.now.trees number ≡ old.now.trees number

-- no table, index or view is made, changed or dropped
abbrev pub DeclaresNothing : State → State → Type 0
DeclaresNothing old new = new.now.schema ≡ old.now.schema

-- what the rows of a table mean is changed, and nothing else: nothing is declared; the database
-- lists its tables and obeys their declarations
pub record ChangesIn {A : Type 0} (layout : Layout) (table : TableOf A) (change : List A → List A)
    (old new : State) : Type 0 where
  pub records : (was : List A)
      → records_in table old.now.trees ≡ Some was
      → records_in table new.now.trees ≡ Some (change was)
  pub others : KeepsOthersIn layout table.number old new
  pub schema : DeclaresNothing old new
  pub desk : IsDeskOf layout new
  pub inside : IsTrue new.in_transaction
  pub sound : IsDatabase new.now

-- where a statement is answered in a transaction over the tables of a desk, and the disk returned
-- what was written, this is what it did
abbrev pub DoesIn : {S T : Type 0} → Layout → store.Ghosts S → Held S → Held S → Result T Error
    → (State → State → Type 0) → Type 0
DoesIn layout g old new result Effect =
    HasCleanDisk (state g new) → IsTrue (state g old).in_transaction
    → IsDeskOf layout (state g old)
    → OnOk result (Effect (state g old) (state g new))

-- the tables of a desk are read, and the disk returned what was written
abbrev pub IsReadIn : {S : Type 0} → Layout → store.Ghosts S → Held S → Held S → Type 0
IsReadIn layout g old new = HasCleanDisk (state g new) × IsDeskOf layout (state g old)

-- where the disk returned what was written, a store that is open was open before
abbrev pub WasOpen : State → State → Type 0
WasOpen old new = HasCleanDisk new → IsTrue new.is_open → IsTrue old.is_open

-- whatever is answered, nothing is committed, no store is opened again, and a crash leaves what it
-- left before
pub record ChangesNothingIn {S : Type 0} (layout : Layout) (g : store.Ghosts S) (old new : Held S)
    : Type 0 where
  pub preserved : IsReadIn layout g old new → KeepsCommit (state g old) (state g new)
  pub was_open : WasOpen (state g old) (state g new)
  pub crash : Survives (state g old) (state g new) (λ _. ⊥)

-- nothing is committed: the last commit stands, and a crash leaves what it left before
pub record CommitsNothing {S : Type 0} (g : store.Ghosts S) (old new : Held S) : Type 0 where
  pub preserved : HasCleanDisk (state g new) → KeepsCommit (state g old) (state g new)
  pub crash : Survives (state g old) (state g new) (λ _. ⊥)

-- these are all rows of the table, in their order, and nothing is changed
abbrev pub ReadsTable : {S A : Type 0} → store.Ghosts S → Held S → Held S → TableOf A → List Row
    → Type 0
ReadsTable g old new table rows =
    (rows ≡ table_rows table (state g old).now.trees) × IsUnchanged (state g old) (state g new)

-- what these rows mean is what passes the test of what the table holds, in the same order, and
-- nothing is changed
abbrev pub FindsRecords : {S A : Type 0} → store.Ghosts S → Held S → Held S → TableOf A
    → (A → Bool) → List Row → Type 0
FindsRecords {S} {A} g old new table test rows =
    ((was : List A)
    → records_in table (state g old).now.trees ≡ Some was
    → all_meanings table.means rows ≡ Some (filter test was))
    × IsUnchanged (state g old) (state g new)

-- the tables of this schema stand, with no row
abbrev pub AreEmpty : Schema → State → Type 0
AreEmpty schema s =
    (s.now.schema ≡ schema) × AllByRecursion (λ (t : Table). s.now.trees t.tree ≡ []) schema.tables

-- the tables of the first schema are now the first of those of the second: they keep their rows,
-- and those behind them have none
pub record ExtendsSchema (before after : Schema) (old new : State) : Type 0 where
  pub schema : new.now.schema ≡ after
  pub preserved : KeepsRows before.tables old.now.trees new.now.trees
  pub empty : AllByRecursion (λ (t : Table). new.now.trees t.tree ≡ [])
      (drop (length before.tables) after.tables)

-- where a statement is answered in a transaction over tables of the first schema, and the disk
-- returned what was written, those of the second are made of them
abbrev pub Makes : {S T : Type 0} → store.Ghosts S → Held S → Held S → Result T Error → Schema
    → Schema → Type 0
Makes g old new result before after =
    HasCleanDisk (state g new) → IsTrue (state g old).in_transaction
    → (state g old).now.schema ≡ before
    → OnOk result (ExtendsSchema before after (state g old) (state g new)
    × IsTrue (state g new).in_transaction)

-- ---- of version 2

-- the tables of version 2 are declared, whatever stands beside them
abbrev pub IsDeclared : State → Type 0
IsDeclared s = HasTables layout_two s.now.schema

abbrev pub IsDesk : State → Type 0
IsDesk = IsDeskOf layout_two

abbrev pub KeepsOthers : ℕ → State → State → Type 0
KeepsOthers = KeepsOthersIn layout_two

abbrev pub Changes : {A : Type 0} → TableOf A → (List A → List A) → State → State → Type 0
Changes table = ChangesIn layout_two table

abbrev pub Does : {S T : Type 0} → store.Ghosts S → Held S → Held S → Result T Error
    → (State → State → Type 0) → Type 0
Does g = DoesIn layout_two g

abbrev pub IsRead : {S : Type 0} → store.Ghosts S → Held S → Held S → Type 0
IsRead g = IsReadIn layout_two g

abbrev pub ChangesNothing : {S : Type 0} → store.Ghosts S → Held S → Held S → Type 0
ChangesNothing g = ChangesNothingIn layout_two g

-- a record is added after the others
abbrev pub Adds : {A : Type 0} → TableOf A → A → State → State → Type 0
Adds table added = Changes table (λ was. was ++ added ∷ [])

-- a record is added after the others, where each of those passes the test
abbrev pub AddsAfter : {A : Type 0} → (A → Bool) → TableOf A → A → State → State → Type 0
AddsAfter {A} test table added old new =
    (was : List A)
    → records_in table old.now.trees ≡ Some was
    → IsTrue (list_all test was)
    → Adds table added old new

-- a record is added, where there is none
abbrev pub AddsFirst : {A : Type 0} → TableOf A → A → State → State → Type 0
AddsFirst table = AddsAfter (λ _. false) table

-- no record is left
abbrev pub Empties : {A : Type 0} → TableOf A → State → State → Type 0
Empties table = Changes table (λ _. [])

-- the records that pass the test are taken out
abbrev pub TakesOut : {A : Type 0} → TableOf A → (A → Bool) → State → State → Type 0
TakesOut table test = Changes table (filter (λ it. not (test it)))

-- each record is changed
abbrev pub Sets : {A : Type 0} → TableOf A → (A → A) → State → State → Type 0
Sets table change = Changes table (map change)
