-- What asking for columns returns.
use Rattle.std.specs.Prelude.{◌≡◌, ℕ, List, map, Result, Err, IsOk, IsTrue, OnOk}
use Rattle.std.specs.List.{AllByRecursion}
use Rattle.sqlite.specs.Held.{Held, state}
use Rattle.sqlite.specs.Listing.{understood}
use Rattle.sqlite.specs.Schema.{Schema}
use Rattle.sqlite.specs.State.{HasCleanDisk, Survives}
use Rattle.sqlite.specs.Table.{Table}
use Rattle.sqlite_trees.specs.declared.store.Store as store
use Rattle.sql_schema.specs.Tables.{asked_two}
use Rattle.sql_schema.specs.SqlTexts.{asking_text}
use Rattle.sql_desk_tables.specs.declared.columns.ColumnError.{ColumnError}
use Rattle.sql_desk_tables.specs.declared.columns.ColumnError.TheVariants.{Missing}

-- over tables of this schema each text is a statement
abbrev pub AreUnderstood : Schema → List (List ℕ) → Type 0
AreUnderstood schema texts = AllByRecursion (λ text. IsOk (understood schema text)) texts

-- each column of these tables stands
unfoldable pub HasColumnsOf : List Table → Schema → Type 0
HasColumnsOf tables schema = AreUnderstood schema (map asking_text tables)

-- each column that is read of a desk stands
abbrev pub HasColumns : Schema → Type 0
HasColumns = HasColumnsOf asked_two

-- outside a transaction nothing is changed, and a crash leaves what it left before; the columns
-- are said to stand where the store is open and the texts that name them are understood, and one is
-- said to be missing where they are not
pub record AsksFor {S T : Type 0} (g : store.Ghosts S) (old new : Held S) (texts : List (List ℕ))
    (result : Result T ColumnError) : Type 0 where
  pub crash : Survives (state g old) (state g new) (λ _. ⊥)
  pub same : HasCleanDisk (state g new) → IsTrue (state g new).is_open
      → IsTrue (state g old).is_open × ((state g new).now ≡ (state g old).now)
  pub stand : HasCleanDisk (state g new)
      → OnOk result (IsTrue (state g old).is_open × IsTrue (state g new).is_open
      × AreUnderstood (state g old).now.schema texts)
  pub missed : HasCleanDisk (state g new) → result ≡ Err Missing
      → IsTrue (state g old).is_open × ¬ AreUnderstood (state g old).now.schema texts
