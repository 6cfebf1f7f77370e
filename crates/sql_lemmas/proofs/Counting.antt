-- The statement that counts the rows of a table.
use Rattle.std.proofs.Common.{◌≡◌, ◌⊎◌, ℕ, min, pos, negsuc, List, [], ◌∷◌, ◌++◌, codes, map, filter, length, true, false, None, Some, Ok, Err, Result, IfOk, IfErr, IsPermutation, refl, sym, ap, subst, ◌∙◌, arith}
use Rattle.std.specs.List.{AllByRecursion, AllZip}
use Rattle.std.proofs.lemmas.List.{length-map}
use Rattle.std.proofs.lemmas.List.Elements.{All-from_recursion, recursion_from_All}
use Rattle.std.proofs.lemmas.List.Sorted.{All-permutation, length_permutation}
use Rattle.sqlite.specs.declared.error.Error.{Error}
use Rattle.sqlite.specs.declared.types.Value.TheVariants.{Null, Int}
use Rattle.sqlite.specs.Collation.TheVariants.{Binary}
use Rattle.sqlite.specs.Command.TheVariants.{Select}
use Rattle.sqlite.specs.Held.{Held, state}
use Rattle.sqlite.specs.Order.{Row}
use Rattle.sqlite.specs.Program.{given_at, overlay}
use Rattle.sqlite.specs.Query.{IsAnswer, Output, Query, end, inner, output, page}
use Rattle.sqlite.specs.Schema.{Schema}
use Rattle.sqlite.specs.State.{HasCleanDisk, Shown, FailsToQuery, IsTooLate, Survives}
use Rattle.sqlite.specs.Table.{Table}
use Rattle.sqlite.specs.Term.{Term, col, eval, lit}
use Rattle.sqlite.specs.Tree.{Trees}
use Rattle.sqlite.proofs.Callers.{reads_as}
use Rattle.sqlite_sql.specs.Group.{Grouping, IsSummary, value_over}
use Rattle.sqlite_sql.specs.Term.{Env}
use Rattle.sqlite_sql.specs.declared.aggregate.AggregateOp.TheVariants as by
use Rattle.sqlite_trees.specs.declared.store.Store as store
use Rattle.sql_schema.specs.Statements.{ChangesNothing, HasTables, IsRead, TableOf, layout_two}
use Rattle.sql_lemmas.proofs.Deleting.{each_passed, passes}
use Rattle.sql_lemmas.proofs.Queries.{asked_alone}
use Rattle.sql_lemmas.proofs.Reading.{AsksAs, shown_same}
use Rattle.sql_lemmas.specs.CountedRows.{CountsRows, count_rows}

-- all rows are one group, and are counted
abbrev pub all_counted : Grouping
all_counted = record {
  keys = [];
  collations = [];
  aggregates = record { op = by.CountRows; distinct = false; collation = Binary; argument = lit Null } ∷ [];
  having = [];
}

-- a query of how many rows pass the tests
abbrev pub counted : ℕ → List Term → Query
counted tree tests = record {
  from = inner tree end;
  filter = tests;
  group = Some all_counted;
  project = col 1 0 ∷ [];
  distinct = false;
  collations = [];
  order = [];
  limit = lit (Int (negsuc 0));
  offset = lit (Int (pos 0));
}

abbrev pub count_name : List (List ℕ)
count_name = codes "COUNT(*)" ∷ []

-- what is alone stands so in any order
alone : {X : Type 0} (x : X) (ys : List X) → IsPermutation (x ∷ []) ys → ys ≡ x ∷ []
alone {X} x ys same =
    go ys (length_permutation (x ∷ []) ys same)
    (recursion_from_All (λ y. y ≡ x) ys (All-permutation (λ y. y ≡ x) (x ∷ []) ys same (All-from_recursion (λ y. y ≡ x) (x ∷ []) (refl, tt))))
  where
    go : (ys : List X) → length ys ≡ 1 → AllByRecursion (λ y. y ≡ x) ys → ys ≡ x ∷ []
    go [] long each = absurd (omega (arith, long))
    go (y ∷ []) long each = ap (λ z. z ∷ []) each.0
    go (y ∷ z ∷ more) long each = absurd (omega (arith, long))

-- the summary of a group is how many there are in it
summary_is : (group : List Env) (row : Row) → IsSummary all_counted group row → row ≡ Int (pos (min (length group) 9223372036854775807)) ∷ []
summary_is group row (values, each, is) = is ∙ go values each
  where
    go : (values : Row) → AllZip (λ a v. value_over group a ≡ Some v) all_counted.aggregates values → values ≡ Int (pos (min (length group) 9223372036854775807)) ∷ []
    go [] each = absurd each
    go (v ∷ []) each =
        let same : Int (pos (min (length (map (eval (lit Null)) group)) 9223372036854775807)) ≡ v = cc in
        ap (λ w. w ∷ []) (sym same) ∙ ap (λ n. Int (pos (min n 9223372036854775807)) ∷ []) (length-map group (eval (lit Null)))
    go (v ∷ w ∷ more) each = absurd each.1

-- and of one group there is one
summaries_are : (group : List Env) (rows : List Row) → AllZip (IsSummary all_counted) (group ∷ []) rows → rows ≡ count_rows (length group)
summaries_are group [] each = absurd each
summaries_are group (row ∷ []) each = ap (λ r. r ∷ []) (summary_is group row each.0)
summaries_are group (row ∷ next ∷ more) each = absurd each.1

module _ (tree : ℕ) (tests : List Term) (params : Row) (db : Trees) (none : given_at [] tree ≡ None) where
  pub counts_passing : (rows : List Row) → IsAnswer (counted tree tests) (overlay db []) params rows → rows ≡ count_rows (length (filter (passes tests params) (db tree)))
  counts_passing rows a =
      let q = counted tree tests in
      let found = filter (passes tests params) (db tree) in
      let here : overlay db [] tree ≡ db tree = rw none in
      let all = each_passed (λ r. params ∷ r ∷ []) (passes tests params) (overlay db [] tree) ∙ ap (λ rs. map (λ r. params ∷ r ∷ []) (filter (passes tests params) rs)) here in
      let (group, same, one) = a.grouped.grouping in
      let long : length group ≡ length found = length_permutation _ group same ∙ ap length all ∙ length-map found (λ r. params ∷ r ∷ []) in
      let summed = summaries_are group a.grouped.rows (subst (λ groups. AllZip (IsSummary all_counted) groups a.grouped.rows) one a.grouped.summaries) ∙ ap count_rows long in
      let row : Row = Int (pos (min (length found) 9223372036854775807)) ∷ [] in
      let staged : a.staged ≡ (params ∷ row ∷ []) ∷ [] = a.grouped.having ∙ ap (λ rs. filter (λ _. true) (map (λ r. params ∷ r ∷ []) rs)) summed in
      let preserved : a.kept ≡ output q (params ∷ row ∷ []) ∷ [] = a.distinct ∙ ap (map (output q)) staged in
      let ordered = alone (output q (params ∷ row ∷ [])) a.ordered (subst (λ k. IsPermutation k a.ordered) preserved a.same) in
      a.shown ∙ ap (λ xs. page q params (map (λ (p : Output). p.1) xs)) ordered

-- ---- of all rows

-- the text that counts them
abbrev pub counting_text : Table → List ℕ
counting_text table = codes "SELECT COUNT(*) FROM " ++ table.name

-- in this schema the text made of the table does so
abbrev pub CountsAs : {A : Type 0} → TableOf A → Table → Schema → Type 0
CountsAs it table s = AsksAs s (counting_text table) (counted it.number []) count_name

-- so it is over the tables of a desk
pub record CountsTable {A : Type 0} (it : TableOf A) (table : Table) : Type 0 where
  pub asks : (s : Schema) → HasTables layout_two s → CountsAs it table s
  pub none : given_at [] it.number ≡ None

all_pass : (rows : List Row) → filter (passes [] []) rows ≡ rows
all_pass [] = refl
all_pass (row ∷ rows) = ap (λ l. row ∷ l) (all_pass rows)

module _ {A V S : Type 0} {it : TableOf A} {table : Table} (counts : CountsTable it table) (items : V → List Row) (g : store.Ghosts S) (old new : Held S) (r : Result V Error)
    (shown : HasCleanDisk (state g new) → IfOk r (λ v. Shown (counting_text table) [] (state g old) (state g new) (items v))) where
  pub counting_rows : IsRead g old new → IfOk r (λ v. CountsRows g old new it (items v))
  counting_rows read = go r (shown read.0)
    where
      go : (q : Result V Error) → IfOk q (λ v. Shown (counting_text table) [] (state g old) (state g new) (items v)) → IfOk q (λ v. CountsRows g old new it (items v))
      go (Err e) h = tt
      go (Ok v) h =
          let schema = (state g old).now.schema in
          let of = counts.asks schema read.1.schema in
          let got = reads_as (counting_text table) [] (state g old) (state g new) schema refl (Select (record { lets = []; body = counted it.number [] }) count_name) of.is of.plain of.unlisted (items v) h in (
            counts_passing it.number [] [] (state g old).now.trees counts.none (items v) (got.answer Null) ∙ ap (λ rows. count_rows (length rows)) (all_pass ((state g old).now.trees it.number)),
            shown_same (counting_text table) [] (state g old) (state g new) schema refl of.plain (items v) h,
          )

  pub counting_changes : (HasCleanDisk (state g new) → IfErr r (λ e. FailsToQuery (counting_text table) [] (state g old) (state g new) e ⊎ IsTooLate (counting_text table) [] (state g old) (state g new) e)) → Survives (state g old) (state g new) (λ _. ⊥)
      → ChangesNothing g old new
  counting_changes = asked_alone g old new items (counting_text table) [] r (λ read. (counts.asks (state g old).now.schema read.1.schema).plain) shown
