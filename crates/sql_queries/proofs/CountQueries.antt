-- A query that counts the records that pass a test: what it finds, and that it changes nothing.
use Rattle.std.proofs.Common.{◌≡◌, inl, inr, ℕ, suc, List, [], ◌∷◌, map, filter, length, Bool, None, Some, Option, Ok, Err, Result, IfOk, refl, sym, ap, subst, ◌∙◌, rules}
use Rattle.std.proofs.lemmas.List.{length-map}
use Rattle.sqlite.specs.declared.error.Error.{Error}
use Rattle.sqlite.specs.declared.types.Value.TheVariants.{Null}
use Rattle.sqlite.specs.Command.TheVariants.{Select}
use Rattle.sqlite.specs.Held.{Held, state}
use Rattle.sqlite.specs.Order.{Row}
use Rattle.sqlite.specs.Program.{given_at, overlay}
use Rattle.sqlite.specs.Query.{IsAnswer}
use Rattle.sqlite.specs.Schema.{Schema}
use Rattle.sqlite.specs.State.{HasCleanDisk, Shown}
use Rattle.sqlite.specs.Term.{Term}
use Rattle.sqlite.specs.Tree.{Trees}
use Rattle.sqlite.proofs.Callers.{reads_as}
use Rattle.sqlite_trees.specs.declared.store.Store as store
use Rattle.sql_rows.specs.Meanings.{all_meanings}
use Rattle.sql_schema.specs.Statements.{ChangesNothing, HasTables, IsRead, TableOf, columns_of, layout_two}
use Rattle.sql_lemmas.proofs.Counting.{count_name, counted, counts_passing}
use Rattle.sql_lemmas.proofs.Deleting.{passes}
use Rattle.sql_lemmas.proofs.GivenNumbers.{each_means}
use Rattle.sql_lemmas.proofs.Queries.{asked_alone}
use Rattle.sql_lemmas.proofs.Reading.{AsksAs, found_records, shown_same}
use Rattle.sql_lemmas.specs.CountedRows.{count_rows}
use Rattle.sql_stored.specs.Keys.{IsAsked}
use Rattle.sql_queries.specs.CountedRecords.{CountsRecords}

-- rows mean as many records as they are
pub as_many : {A : Type 0} (means : Row → Option A) (rows : List Row) (was : List A) → all_meanings means rows ≡ Some was → length rows ≡ length was
as_many means [] was h = let none : [] ≡ was = cc in ap length none
as_many means (row ∷ rows) was h =
    let each = each_means means row rows was h in
    ap suc (as_many means rows each.1 each.3) ∙ ap length (sym each.4)

-- the statement asks how many rows there are whose record passes the test
pub record IsCount {A : Type 0} (it : TableOf A) (sql : List ℕ) (params : Row) (test : A → Bool) : Type 0 where
  pub tests : List Term
  pub asks : (s : Schema) → HasTables layout_two s → AsksAs s sql (counted it.number tests) count_name
  pub none : given_at [] it.number ≡ None
  pub same : (row : Row) (x : A) → it.means (columns_of it row) ≡ Some x → passes tests params row ≡ test x

module _ {S V A : Type 0} (g : store.Ghosts S) (a b : Held S) (items : V → List Row) {it : TableOf A} {sql : List ℕ} {test : A → Bool} where
  module _ {params : Row} (q : IsCount it sql params test) where
    -- what the answer shows, of rows that mean these records
    answered : (db : Trees) (rows : List Row) → IsAnswer (counted it.number q.tests) (overlay db []) params rows → (was : List A) → all_meanings it.means (map (columns_of it) (db it.number)) ≡ Some was → rows ≡ count_rows (length (filter test was))
    answered db rows answer was known =
        let passing = filter (passes q.tests params) (db it.number) in
        counts_passing it.number q.tests params db q.none rows answer
        ∙ ap count_rows (sym (length-map passing (columns_of it)) ∙ as_many it.means (map (columns_of it) passing) (filter test was) (found_records it (passes q.tests params) test q.same (db it.number) was known))

    pub counts : (r : Result V Error) → (HasCleanDisk (state g b) → IfOk r (λ v. Shown sql params (state g a) (state g b) (items v))) → IsRead g a b → IfOk r (λ v. CountsRecords g a b it test (items v))
    counts (Err e) ok read = tt
    counts (Ok v) ok read =
        let schema = (state g a).now.schema in
        let of = q.asks schema read.1.schema in
        let got = reads_as sql params (state g a) (state g b) schema refl (Select (record { lets = []; body = counted it.number q.tests }) count_name) of.is of.plain of.unlisted (items v) (ok read.0) in (
          λ was known. answered (state g a).now.trees (items v) (got.answer Null) was known,
          shown_same sql params (state g a) (state g b) schema refl of.plain (items v) (ok read.0),
        )

  module _ {Passes : Row → Type 0} (query : (params : Row) → Passes params → IsCount it sql params test) (r : Result V Error) where
    pub counts_asked : IsAsked g a b items sql r Passes → IsRead g a b → IfOk r (λ v. CountsRecords g a b it test (items v))
    counts_asked (inl refused) read = rw refused.is tt
    counts_asked (inr asked) read = counts (query asked.0 asked.1) r asked.2.ok read

    pub asked_for_nothing : IsAsked g a b items sql r Passes → ChangesNothing g a b
    asked_for_nothing (inl refused) = let none : ChangesNothing g a a = search rules in subst (λ (h : Held S). ChangesNothing g a h) (sym refused.same) none
    asked_for_nothing (inr asked) =
        let q = query asked.0 asked.1 in
        asked_alone g a b items sql asked.0 r (λ read. (q.asks _ read.1.schema).plain) asked.2.ok asked.2.err asked.2.crash
