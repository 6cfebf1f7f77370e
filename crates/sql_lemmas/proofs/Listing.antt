-- The statement that shows all rows of a table.
use Rattle.std.proofs.Common.{◌≡◌, ◌⊎◌, ℕ, List, [], ◌∷◌, map, refl, ap, Result, IfOk, IfErr, IsTrue, None}
use Rattle.sqlite.specs.declared.error.Error.{Error}
use Rattle.sqlite.specs.Held.{Held, state}
use Rattle.sqlite.specs.Order.{Row, column}
use Rattle.sqlite.specs.Program.{given_at}
use Rattle.sqlite.specs.State.{HasCleanDisk, Shown, FailsToQuery, IsTooLate, Survives}
use Rattle.sqlite.specs.Table.{Table}
use Rattle.sqlite.specs.Schema.{Schema}
use Rattle.sqlite.specs.Term.{Term, col, eval_all}
use Rattle.sqlite_trees.specs.declared.store.Store as store
use Rattle.sql_schema.specs.Statements.{Layout, HasTables, TableOf, ChangesNothingIn, IsReadIn, ReadsTable, has_table}
use Rattle.sql_schema.specs.SqlTexts.{given_names, listing_text}
use Rattle.sql_lemmas.proofs.Commits.{query_keeps, query_opened}
use Rattle.sql_lemmas.proofs.Reading.{AsksAs, whole, reads_whole}

-- the terms that show the columns of a table
abbrev pub shown_terms : {A : Type 0} → TableOf A → List Term
shown_terms it = map (col 1) it.columns

pub shows_columns : (params row : Row) (places : List ℕ) → eval_all (map (col 1) places) (params ∷ row ∷ []) ≡ map (column row) places
shows_columns params row [] = refl
shows_columns params row (at ∷ places) = ap (λ l. column row at ∷ l) (shows_columns params row places)

-- in this schema the text made of the table shows the columns of all its rows, in the order of their numbers
abbrev pub ListsAs : {A : Type 0} → TableOf A → Table → Schema → Type 0
ListsAs it table s = AsksAs s (listing_text table) (whole it.number (shown_terms it)) (given_names table)

-- so it is in each schema that has the tables of this version
pub record ListsTable {A : Type 0} (layout : Layout) (it : TableOf A) (table : Table) : Type 0 where
  pub asks : (s : Schema) → HasTables layout s → ListsAs it table s
  pub none : given_at [] it.number ≡ None
  pub numbered : IsTrue (has_table layout it.number)

module _ {A V S : Type 0} {layout : Layout} {it : TableOf A} {table : Table} (lists : ListsTable layout it table) (items : V → List Row) (g : store.Ghosts S) (old new : Held S) (r : Result V Error)
    (shown : HasCleanDisk (state g new) → IfOk r (λ v. Shown (listing_text table) [] (state g old) (state g new) (items v))) where
  pub listing_rows : IsReadIn layout g old new → IfOk r (λ v. ReadsTable g old new it (items v))
  listing_rows read =
      reads_whole layout items it (shown_terms it) (given_names table) (listing_text table) lists.asks lists.none lists.numbered (λ row. shows_columns [] row it.columns) (state g old) (state g new) r read.1 (shown read.0)

  pub listing_changes : (HasCleanDisk (state g new) → IfErr r (λ e. FailsToQuery (listing_text table) [] (state g old) (state g new) e ⊎ IsTooLate (listing_text table) [] (state g old) (state g new) e)) → Survives (state g old) (state g new) (λ _. ⊥)
      → ChangesNothingIn layout g old new
  listing_changes refused crash = record {
    preserved = λ read. query_keeps items (listing_text table) [] (state g old) (state g new) (state g old).now.schema (lists.asks (state g old).now.schema read.1.schema).plain r refl (shown read.0) (refused read.0);
    was_open = λ clean. query_opened items (listing_text table) [] (state g old) (state g new) r (shown clean) (refused clean);
    crash = crash;
  }
