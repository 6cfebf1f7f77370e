-- What a query finds that is asked with parameters which name a key, and that it changes nothing.
use Rattle.std.proofs.Common.{◌≡◌, inl, inr, ℕ, List, Bool, Some, Result, IfOk, refl, subst, sym, arith}
use Rattle.sqlite.specs.declared.error.Error.{Error}
use Rattle.sqlite.specs.Held.{Held}
use Rattle.sqlite.specs.Order.{Row}
use Rattle.sqlite.specs.Schema.{Schema}
use Rattle.sqlite.specs.Table.{Table}
use Rattle.sqlite.specs.Term.{Term}
use Rattle.sqlite_trees.specs.declared.store.Store as store
use Rattle.sqlite_resolve.specs.Compile.{first}
use Rattle.sql_lemmas.proofs.Asking.{Asks, commits_nothing}
use Rattle.sql_lemmas.proofs.Deleting.{passes}
use Rattle.sql_lemmas.proofs.Listing.{ListsTable, shown_terms, shows_columns}
use Rattle.sql_lemmas.proofs.Queries.{IsQuery, finds_rows, nothing_changed}
use Rattle.sql_lemmas.proofs.Reading.{AsksAs, sought}
use Rattle.sql_schema.specs.SqlTexts.{given_names}
use Rattle.sql_schema.specs.Statements.{ChangesNothing, CommitsNothing, FindsRecords, HasTables, IsRead, TableOf, columns_of, layout_two}
use Rattle.sql_stored.specs.Keys.{IsAsked}

nothing_done : {S : Type 0} (g : store.Ghosts S) (a : Held S) → ChangesNothing g a a
nothing_done g a = record {
  preserved = λ read. record { was_open = λ o. o; committed = λ o. refl };
  was_open = λ clean o. o;
  crash = record { clean = omega arith; shield = λ h. h; counts = omega arith; limit = refl; closes = λ clean o. inl o; crash = λ clean db h. inl h };
}

none_committed : {S : Type 0} (g : store.Ghosts S) (a : Held S) → CommitsNothing g a a
none_committed g a = record {
  preserved = λ clean. record { was_open = λ o. o; committed = λ o. refl };
  crash = (nothing_done g a).crash;
}

-- nothing is committed, whatever the tables are, where the text asks for nothing of what it writes
pub bare : {S V : Type 0} (g : store.Ghosts S) (a b : Held S) (items : V → List Row) {sql : List ℕ} (r : Result V Error) {Passes : Row → Type 0} → Asks (first sql) → IsAsked g a b items sql r Passes → CommitsNothing g a b
bare {S = S} g a b items r alone (inl refused) = subst (λ (h : Held S). CommitsNothing g a h) (sym refused.same) (none_committed g a)
bare g a b items r alone (inr asked) = commits_nothing g a b items _ asked.0 r alone asked.2.ok asked.2.err asked.2.crash

module _ {S V A : Type 0} (g : store.Ghosts S) (a b : Held S) (items : V → List Row) (r : Result V Error) {it : TableOf A} {declared : Table} {sql : List ℕ} {tests : List Term} {test : A → Bool} {Passes : Row → Type 0}
    (lists : ListsTable layout_two it declared) (asks : (s : Schema) → HasTables layout_two s → AsksAs s sql (sought it.number tests (shown_terms it)) (given_names declared))
    (same : (params : Row) → Passes params → (row : Row) (x : A) → it.means (columns_of it row) ≡ Some x → passes tests params row ≡ test x) where
  query : (params : Row) → Passes params → IsQuery it sql params test
  query params given = record {
    tests = tests;
    project = shown_terms it;
    names = given_names declared;
    asks = asks;
    none = lists.none;
    numbered = lists.numbered;
    columns = λ row. shows_columns params row it.columns;
    same = same params given;
  }

  pub found : IsAsked g a b items sql r Passes → IsRead g a b → IfOk r (λ v. FindsRecords g a b it test (items v))
  found (inl refused) read = rw refused.is tt
  found (inr asked) read = finds_rows g a b items r (query asked.0 asked.1) asked.2.ok read

  pub left : IsAsked g a b items sql r Passes → ChangesNothing g a b
  left (inl refused) = subst (λ (h : Held S). ChangesNothing g a h) (sym refused.same) (nothing_done g a)
  left (inr asked) = nothing_changed g a b items r (query asked.0 asked.1) asked.2.ok asked.2.err asked.2.crash
