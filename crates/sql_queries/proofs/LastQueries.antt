-- A query for the record with the greatest number: what it finds.
use Rattle.std.proofs.Common.{◌≡◌, ◌≤◌, ℕ, pos, negsuc, List, [], ◌∷◌, map, filter, take, length, Bool, true, false, Some, None, Ok, Err, Result, IfOk, IsPermutation, IsSorted, Ordering, Less, Equal, Greater, is_lt, refl, sym, ap, subst, ◌∙◌, arith}
use Rattle.std.specs.List.{All, AllByRecursion, Contains}
use Rattle.std.specs.Ordering.{int_cmp, ordering_then}
use Rattle.std.proofs.lemmas.Bool.Decides.{nat_tests}
use Rattle.std.proofs.lemmas.Int.{ints}
use Rattle.std.proofs.lemmas.List.Elements.{All-from_recursion, Contains-append_left, Contains-append_right, recursion_from_All}
use Rattle.std.proofs.lemmas.List.MinMax.{ranks_by}
use Rattle.std.proofs.lemmas.List.Sorted.{All-permutation, IsPermutation-sym, length_permutation, sorted_far}
use Rattle.sqlite.specs.declared.error.Error.{Error}
use Rattle.sqlite.specs.declared.types.Value.{Value}
use Rattle.sqlite.specs.declared.types.Value.TheVariants.{Null, Int, Real, Text, Blob}
use Rattle.sqlite.specs.Collation.TheVariants.{Binary}
use Rattle.sqlite.specs.Command.TheVariants.{Select}
use Rattle.sqlite.specs.Held.{Held, state}
use Rattle.sqlite.specs.Order.{Row, column, value_cmp}
use Rattle.sqlite.specs.Program.{given_at, overlay}
use Rattle.sqlite.specs.Query.{IsAnswer, Output, Query, end, inner, output, output_cmp}
use Rattle.sqlite.specs.Schema.{Schema}
use Rattle.sqlite.specs.State.{HasCleanDisk, Shown}
use Rattle.sqlite.specs.Term.{Term, col, eval_all, lit}
use Rattle.sqlite.specs.Tree.{Trees}
use Rattle.sqlite.proofs.Callers.{reads_as}
use Rattle.sqlite_sql.proofs.QueryLemmas.{output_cmp_total}
use Rattle.sqlite_trees.proofs.ListLemmas.{all_weaker, map-map}
use Rattle.sqlite_trees.specs.declared.store.Store as store
use Rattle.sqlite_value.proofs.OrderLemmas.{value_cmp-Int}
use Rattle.sqlite_value.specs.declared.keys.Key.{Key}
use Rattle.sql_rows.specs.ColumnValues.{natural_value}
use Rattle.sql_rows.specs.Meanings.{all_meanings}
use Rattle.sql_schema.specs.Statements.{HasTables, IsRead, TableOf, columns_of, layout_two}
use Rattle.sql_lemmas.proofs.Deleting.{each_passed, passes}
use Rattle.sql_lemmas.proofs.GivenNumbers.{each_means}
use Rattle.sql_lemmas.proofs.Reading.{AsksAs, found_records, shown_same}
use Rattle.sql_queries.specs.LastRecords.{FindsLast, IsLastOf}

abbrev pub descending : Key
descending = record { collation = Binary; descending = true }

-- a query of the rows that pass the tests, of which it shows the one with the greatest value in a column
abbrev pub sought_last : ℕ → List Term → List Term → ℕ → Query
sought_last tree tests project at = record {
  from = inner tree end;
  filter = tests;
  group = None;
  project = project;
  distinct = false;
  collations = [];
  order = (col 1 at, descending) ∷ [];
  limit = lit (Int (pos 1));
  offset = lit (Int (pos 0));
}

-- ---- numbers in the order of a column

natural_is : (v : Value) (n : ℕ) → natural_value v ≡ Some n → v ≡ Int (pos n)
natural_is (Int (pos m)) n h = ap (λ (k : ℕ). Int (pos k)) (cc)
natural_is (Int (negsuc m)) n h = absurd cc
natural_is Null n h = absurd cc
natural_is (Real x) n h = absurd cc
natural_is (Text t) n h = absurd cc
natural_is (Blob b) n h = absurd cc

then_none : (o : Ordering) → is_lt (ordering_then o Equal) ≡ is_lt o
then_none Less = refl
then_none Equal = refl
then_none Greater = refl

not_above : (m n : ℕ) → is_lt (int_cmp (pos n) (pos m)) ≡ false → m ≤ n
not_above m n h = grind (arith, ints, nat_tests)

at_most : (v w : Value) (m n : ℕ) → natural_value v ≡ Some m → natural_value w ≡ Some n → is_lt (ordering_then (value_cmp w v) Equal) ≡ false → m ≤ n
at_most v w m n is at h =
    not_above m n
    (ap is_lt (sym (value_cmp-Int (pos n) (pos m))) ∙ subst (λ (x : Value). is_lt (value_cmp x (Int (pos m))) ≡ false) (natural_is w n at)
    (subst (λ (x : Value). is_lt (value_cmp w x) ≡ false) (natural_is v m is) (sym (then_none (value_cmp w v)) ∙ h)))

-- ---- the rows that pass, and the one that is shown

module _ (tree : ℕ) (tests project : List Term) (at : ℕ) (params : Row) where
  shows_last : Row → Output
  shows_last r = output (sought_last tree tests project at) (params ∷ r ∷ [])

  abbrev order_of : Output → Output → Ordering
  order_of = output_cmp (sought_last tree tests project at)

  module _ {A : Type 0} (it : TableOf A) (number : A → ℕ) (columns : (row : Row) → eval_all project (params ∷ row ∷ []) ≡ columns_of it row)
      (numbers : (row : Row) (x : A) → it.means (columns_of it row) ≡ Some x → natural_value (column row at) ≡ Some (number x)) where
    -- what is shown is of one of these records
    record IsOf (xs : List A) (p : Output) : Type 0 where
      is : A
      among : Contains xs is
      means : it.means p.1 ≡ Some is
      counts : natural_value (column p.0 0) ≡ Some (number is)

    of_more : (x : A) (xs : List A) (p : Output) → IsOf xs p → IsOf (x ∷ xs) p
    of_more x xs p h = record { is = h.is; among = Contains-append_right (x ∷ []) xs h.is h.among; means = h.means; counts = h.counts }

    each_is_of : (rows : List Row) (xs : List A) → all_meanings it.means (map (columns_of it) rows) ≡ Some xs → AllByRecursion (IsOf xs) (map shows_last rows)
    unfolding shows_last
    each_is_of [] xs h = tt
    each_is_of (row ∷ rows) xs h =
        let each = each_means it.means (columns_of it row) (map (columns_of it) rows) xs h in
        subst (λ (l : List A). AllByRecursion (IsOf l) (map shows_last (row ∷ rows))) (sym each.4) (
          record {
            is = each.0;
            among = Contains-append_left (each.0 ∷ []) each.1 each.0 (0, omega arith, refl);
            means = ap it.means (columns row) ∙ each.2;
            counts = numbers row each.0 each.2;
          },
          all_weaker (IsOf each.1) (IsOf (each.0 ∷ each.1)) (of_more each.0 each.1) (map shows_last rows) (each_is_of rows each.1 each.3),
        )

    -- where none is before what is shown, no number is above its own
    none_above : (shown : Output) (n : ℕ) → natural_value (column shown.0 0) ≡ Some n → (rows : List Row) (xs : List A) → all_meanings it.means (map (columns_of it) rows) ≡ Some xs
        → AllByRecursion (λ p. is_lt (order_of p shown) ≡ false) (map shows_last rows) → AllByRecursion (λ x. number x ≤ n) xs
    unfolding shows_last
    none_above shown n is [] xs h below = let none : [] ≡ xs = cc in subst (AllByRecursion (λ x. number x ≤ n)) none tt
    none_above shown n is (row ∷ rows) xs h below =
        let each = each_means it.means (columns_of it row) (map (columns_of it) rows) xs h in
        subst (AllByRecursion (λ x. number x ≤ n)) (sym each.4)
        (at_most (column row at) (column shown.0 0) (number each.0) n (numbers row each.0 each.2) is below.0, none_above shown n is rows each.1 each.3 below.1)

    -- the last of the records, as what is shown first of the rows in order
    shown_first : (rows : List Row) (xs : List A) → all_meanings it.means (map (columns_of it) rows) ≡ Some xs → (ordered : List Output) → IsPermutation (map shows_last rows) ordered → IsSorted order_of ordered
        → (found : List A) × (all_meanings it.means (take 1 (map (λ (p : Output). p.1) ordered)) ≡ Some found) × IsLastOf number xs found
    shown_first rows xs h [] same sorted = ([], refl, none rows xs h (sym (length_permutation (map shows_last rows) [] same)))
      where
        none : (rows : List Row) (xs : List A) → all_meanings it.means (map (columns_of it) rows) ≡ Some xs → length (map shows_last rows) ≡ 0 → xs ≡ []
        none [] xs h empty = cc
        none (row ∷ rows) xs h empty = absurd (omega (arith, empty))
    shown_first rows xs h (shown ∷ rest) same sorted =
        let all = All-from_recursion (IsOf xs) (map shows_last rows) (each_is_of rows xs h) in
        let first = (recursion_from_All (IsOf xs) (shown ∷ rest) (All-permutation (IsOf xs) (map shows_last rows) (shown ∷ rest) same all)).0 in
        let lowest : All (λ p. is_lt (order_of p shown) ≡ false) (shown ∷ rest) =
        λ k d lt. sorted_far (λ p q. is_lt (order_of p q)) (ranks_by (output_cmp_total (sought_last tree tests project at)) (λ (p : Output). p)) (shown ∷ rest) sorted 0 k d (omega arith) lt in
        let low = recursion_from_All (λ p. is_lt (order_of p shown) ≡ false) (map shows_last rows) (All-permutation (λ p. is_lt (order_of p shown) ≡ false) (shown ∷ rest) (map shows_last rows) (IsPermutation-sym (map shows_last rows) (shown ∷ rest) same) lowest) in (
          first.is ∷ [],
          rw first.means refl,
          (first.among, All-from_recursion (λ x. number x ≤ number first.is) xs (none_above shown (number first.is) first.counts rows xs h low)),
        )

-- the statement asks for all columns of that of the rows that pass which has the greatest number
pub record IsLastQuery {A : Type 0} (it : TableOf A) (sql : List ℕ) (params : Row) (test : A → Bool) (number : A → ℕ) : Type 0 where
  pub tests : List Term
  pub project : List Term
  pub at : ℕ
  pub names : List (List ℕ)
  pub asks : (s : Schema) → HasTables layout_two s → AsksAs s sql (sought_last it.number tests project at) names
  pub none : given_at [] it.number ≡ None
  pub columns : (row : Row) → eval_all project (params ∷ row ∷ []) ≡ columns_of it row
  pub same : (row : Row) (x : A) → it.means (columns_of it row) ≡ Some x → passes tests params row ≡ test x
  pub numbers : (row : Row) (x : A) → it.means (columns_of it row) ≡ Some x → natural_value (column row at) ≡ Some (number x)

module _ {S V A : Type 0} (g : store.Ghosts S) (a b : Held S) (items : V → List Row) {it : TableOf A} {sql : List ℕ} {params : Row} {test : A → Bool} {number : A → ℕ} (q : IsLastQuery it sql params test number) where
  -- what the answer shows, of rows that mean these records
  answered : (db : Trees) (rows : List Row) → IsAnswer (sought_last it.number q.tests q.project q.at) (overlay db []) params rows → (was : List A) → all_meanings it.means (map (columns_of it) (db it.number)) ≡ Some was
      → (found : List A) × (all_meanings it.means rows ≡ Some found) × IsLastOf number (filter test was) found
  unfolding shows_last
  answered db rows answer was known =
      let query = sought_last it.number q.tests q.project q.at in
      let passing = filter (passes q.tests params) (db it.number) in
      let here : overlay db [] it.number ≡ db it.number = rw q.none in
      let staged : answer.staged ≡ map (λ r. params ∷ r ∷ []) passing =
      answer.grouped ∙ each_passed (λ r. params ∷ r ∷ []) (passes q.tests params) (overlay db [] it.number) ∙ ap (λ rs. map (λ r. params ∷ r ∷ []) (filter (passes q.tests params) rs)) here in
      let preserved : answer.kept ≡ map (shows_last it.number q.tests q.project q.at params) passing = answer.distinct ∙ ap (map (output query)) staged ∙ map-map (output query) (λ r. params ∷ r ∷ []) passing in
      let last = shown_first it.number q.tests q.project q.at params it number q.columns q.numbers passing (filter test was) (found_records it (passes q.tests params) test q.same (db it.number) was known) answer.ordered
      (subst (λ k. IsPermutation k answer.ordered) preserved answer.same) answer.sorted in
      (last.0, ap (all_meanings it.means) answer.shown ∙ last.1, last.2)

  pub finds_last : (r : Result V Error) → (HasCleanDisk (state g b) → IfOk r (λ v. Shown sql params (state g a) (state g b) (items v))) → IsRead g a b → IfOk r (λ v. FindsLast g a b it test number (items v))
  finds_last (Err e) ok read = tt
  finds_last (Ok v) ok read =
      let schema = (state g a).now.schema in
      let of = q.asks schema read.1.schema in
      let got = reads_as sql params (state g a) (state g b) schema refl (Select (record { lets = []; body = sought_last it.number q.tests q.project q.at }) q.names) of.is of.plain of.unlisted (items v) (ok read.0) in (
        λ was known. answered (state g a).now.trees (items v) (got.answer Null) was known,
        shown_same sql params (state g a) (state g b) schema refl of.plain (items v) (ok read.0),
      )
