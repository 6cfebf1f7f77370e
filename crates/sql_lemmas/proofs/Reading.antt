-- What a query of a whole table gives, in order of its numbers.
use Rattle.std.proofs.Common.{◌≡◌, ℕ, pos, negsuc, List, [], ◌∷◌, map, filter, flat_map, if◌then◌else◌, Bool, true, false, Some, None, Ok, refl, sym, ap, subst, ◌∙◌, Less, IsPermutation, Err, Result, IfOk, IsTrue}
use Rattle.sqlite.specs.declared.types.Value.TheVariants.{Null, Int}
use Rattle.sqlite.specs.Order.{Row, value_cmp}
use Rattle.sqlite.specs.Term.{Term, lit, col, eval_all}
use Rattle.sqlite.specs.Query.{Query, Output, inner, end, output, output_cmp, page, IsAnswer}
use Rattle.sqlite.specs.Program.{overlay, given_at}
use Rattle.sqlite.specs.Tree.{Trees, IsTable, rowid}
use Rattle.sqlite_value.specs.Keys.{ascending}
use Rattle.sqlite.specs.Collation.TheVariants.{Binary}
use Rattle.sqlite.specs.Schema.{Schema}
use Rattle.sqlite.specs.Command.TheVariants.{Select}
use Rattle.sqlite.specs.Listing.{understood, reads_listing}
use Rattle.sqlite.specs.State.{State, Shown, IsUnchanged}
use Rattle.sqlite.specs.declared.error.Error.{Error}
use Rattle.sql_schema.specs.Statements.{Layout, HasTables, TableOf, columns_of, table_rows, records_in, has_table, IsDeskOf}
use Rattle.sql_rows.specs.Meanings.{all_meanings}
use Rattle.sql_lemmas.proofs.Deleting.{passes, each_passed}
use Rattle.sql_lemmas.proofs.GivenNumbers.{each_means}
use Rattle.sqlite.proofs.Callers.{IsPlain, command_of, reads_as}
use Rattle.sqlite_keyed.proofs.SortLemmas.{sorted_unique}
use Rattle.sqlite_sql.proofs.QueryLemmas.{output_cmp_total}
use Rattle.sqlite_trees.proofs.ListLemmas.{map-map, ascending-map, ascending-filter, ascending_weaker}

abbrev pub whole : ℕ → List Term → Query
whole tree project = record {
  from = inner tree end;
  filter = [];
  group = None;
  project = project;
  distinct = false;
  collations = [];
  order = (col 1 0, ascending Binary) ∷ [];
  limit = lit (Int (negsuc 0));
  offset = lit (Int (pos 0));
}

each_one : {A B : Type 0} (f : A → B) (xs : List A) → flat_map (λ x. f x ∷ []) xs ≡ map f xs
each_one f [] = refl
each_one f (x ∷ xs) = ap (λ l. f x ∷ l) (each_one f xs)

module _ (tree : ℕ) (project : List Term) (db : Trees) (none : given_at [] tree ≡ None) where
  shows : Row → Output
  shows r = output (whole tree project) ([] ∷ r ∷ [])

  rises : (a b : Row) → value_cmp (rowid a) (rowid b) ≡ Less → output_cmp (whole tree project) (shows a) (shows b) ≡ Less
  unfolding shows
  rises a b h = rw h

  -- the rows in order of their numbers, each as the terms show it
  pub in_order : (rows : List Row) → IsTable (db tree) → IsAnswer (whole tree project) (overlay db []) [] rows → rows ≡ map (λ r. eval_all project ([] ∷ r ∷ [])) (db tree)
  unfolding shows
  in_order rows table a =
      let q = whole tree project in
      let here : overlay db [] tree ≡ db tree = rw none in
      let staged : a.staged ≡ map (λ r. [] ∷ r ∷ []) (db tree) = a.grouped ∙ each_one (λ r. [] ∷ r ∷ []) (overlay db [] tree) ∙ ap (map (λ r. [] ∷ r ∷ [])) here in
      let preserved : a.kept ≡ map shows (db tree) = a.distinct ∙ ap (map (output q)) staged ∙ map-map (output q) (λ r. [] ∷ r ∷ []) (db tree) in
      let strict = ascending-map (λ x y. output_cmp q x y ≡ Less) shows (db tree) (ascending_weaker (λ x y. value_cmp (rowid x) (rowid y) ≡ Less) (λ x y. output_cmp q (shows x) (shows y) ≡ Less) rises (db tree) table) in
      let ordered = sorted_unique (output_cmp q) (output_cmp_total q) (map shows (db tree)) a.ordered strict (subst (λ k. IsPermutation k a.ordered) preserved a.same) a.sorted in
      a.shown ∙ ap (λ xs. page q [] (map (λ (p : Output). p.1) xs)) ordered ∙ map-map (λ (p : Output). p.1) shows (db tree)

-- a query changes nothing
pub shown_same : (sql : List ℕ) (params : Row) (old new : State) (schema : Schema) → old.now.schema ≡ schema → IsPlain (understood schema sql) → (rows : List Row) → Shown sql params old new rows → IsUnchanged old new
unfolding Shown
shown_same sql params old new schema has plain rows h =
    let known = sym h.1.is ∙ ap (λ s. understood s sql) has in
    let bare = subst IsPlain (sym known) plain in
    let it = rw bare.0 at h.2 in
    it.3

map-same : {f g : Row → Row} → ((row : Row) → f row ≡ g row) → (rows : List Row) → map f rows ≡ map g rows
map-same e [] = refl
map-same e (row ∷ rows) = rw (e row, map-same e rows) refl

-- in this schema the text is understood as this query
pub record AsksAs (schema : Schema) (sql : List ℕ) (q : Query) (names : List (List ℕ)) : Type 0 where
  pub is : command_of (understood schema sql) ≡ Select (record { lets = []; body = q }) names
  pub plain : IsPlain (understood schema sql)
  pub unlisted : reads_listing schema sql ≡ false

-- a query with no parameters that reads a table of the desk whole, in the order of the rows' numbers
pub reads_whole : {A V : Type 0} (layout : Layout) (items : V → List Row) (it : TableOf A) (project : List Term) (names : List (List ℕ)) (sql : List ℕ)
    → ((s : Schema) → HasTables layout s → AsksAs s sql (whole it.number project) names)
    → given_at [] it.number ≡ None → IsTrue (has_table layout it.number) → ((row : Row) → eval_all project ([] ∷ row ∷ []) ≡ columns_of it row)
    → (old new : State) (r : Result V Error) → IsDeskOf layout old → IfOk r (λ v. Shown sql [] old new (items v)) → IfOk r (λ v. (items v ≡ table_rows it old.now.trees) × IsUnchanged old new)
reads_whole layout items it project names sql asks none numbered columns old new (Err e) was h = tt
reads_whole layout items it project names sql asks none numbered columns old new (Ok v) was h =
    let of = asks old.now.schema was.schema in
    let got = reads_as sql [] old new old.now.schema refl (Select (record { lets = []; body = whole it.number project }) names) of.is of.plain of.unlisted (items v) h in (
      in_order it.number project old.now.trees none (items v) (was.rising it.number numbered).0 (got.answer Null) ∙ map-same columns (old.now.trees it.number),
      shown_same sql [] old new old.now.schema refl of.plain (items v) h,
    )

-- a query of the rows that pass the tests, in the order of their numbers
abbrev pub sought : ℕ → List Term → List Term → Query
sought tree tests project = record {
  from = inner tree end;
  filter = tests;
  group = None;
  project = project;
  distinct = false;
  collations = [];
  order = (col 1 0, ascending Binary) ∷ [];
  limit = lit (Int (negsuc 0));
  offset = lit (Int (pos 0));
}

module _ (tree : ℕ) (tests project : List Term) (params : Row) (db : Trees) (none : given_at [] tree ≡ None) where
  shows_of : Row → Output
  shows_of r = output (sought tree tests project) (params ∷ r ∷ [])

  rises_so : (a b : Row) → value_cmp (rowid a) (rowid b) ≡ Less → output_cmp (sought tree tests project) (shows_of a) (shows_of b) ≡ Less
  unfolding shows_of
  rises_so a b h = rw h

  sought_in_order : (rows : List Row) → IsTable (db tree) → IsAnswer (sought tree tests project) (overlay db []) params rows → rows ≡ map (λ r. eval_all project (params ∷ r ∷ [])) (filter (passes tests params) (db tree))
  unfolding shows_of
  sought_in_order rows table a =
      let q = sought tree tests project in
      let found = filter (passes tests params) (db tree) in
      let here : overlay db [] tree ≡ db tree = rw none in
      let staged : a.staged ≡ map (λ r. params ∷ r ∷ []) found =
      a.grouped ∙ each_passed (λ r. params ∷ r ∷ []) (passes tests params) (overlay db [] tree) ∙ ap (λ rs. map (λ r. params ∷ r ∷ []) (filter (passes tests params) rs)) here in
      let preserved : a.kept ≡ map shows_of found = a.distinct ∙ ap (map (output q)) staged ∙ map-map (output q) (λ r. params ∷ r ∷ []) found in
      let up = ascending-filter _ (passes tests params) (db tree) table in
      let strict = ascending-map (λ x y. output_cmp q x y ≡ Less) shows_of found (ascending_weaker (λ x y. value_cmp (rowid x) (rowid y) ≡ Less) (λ x y. output_cmp q (shows_of x) (shows_of y) ≡ Less) rises_so found up) in
      let ordered = sorted_unique (output_cmp q) (output_cmp_total q) (map shows_of found) a.ordered strict (subst (λ k. IsPermutation k a.ordered) preserved a.same) a.sorted in
      a.shown ∙ ap (λ xs. page q params (map (λ (p : Output). p.1) xs)) ordered ∙ map-map (λ (p : Output). p.1) shows_of found

-- what the rows that pass mean, where a row passes exactly where its record does
pub found_records : {A : Type 0} (it : TableOf A) (chooses : Row → Bool) (test : A → Bool) → ((row : Row) (x : A) → it.means (columns_of it row) ≡ Some x → chooses row ≡ test x)
    → (rows : List Row) (was : List A) → all_meanings it.means (map (columns_of it) rows) ≡ Some was → all_meanings it.means (map (columns_of it) (filter chooses rows)) ≡ Some (filter test was)
found_records it chooses test same [] was h = let nothing : [] ≡ was = cc in rw (← nothing) refl
found_records {A} it chooses test same (row ∷ rows) was h =
    let each = each_means it.means (columns_of it row) (map (columns_of it) rows) was h in
    let later = found_records it chooses test same rows each.1 each.3 in
    subst (λ l. all_meanings it.means (map (columns_of it) (if chooses row then row ∷ filter chooses rows else filter chooses rows)) ≡ Some (filter test l)) (sym each.4)
    (go (chooses row) (test each.0) (same row each.0 each.2) (filter chooses rows) (filter test each.1) each.0 each.2 later)
  where
    go : (a b : Bool) → a ≡ b → (left : List Row) (those : List A) (x : A) → it.means (columns_of it row) ≡ Some x → all_meanings it.means (map (columns_of it) left) ≡ Some those
        → all_meanings it.means (map (columns_of it) (if a then row ∷ left else left)) ≡ Some (if b then x ∷ those else those)
    go true true e left those x means later = rw (means, later) refl
    go true false e left those x means later = absurd cc
    go false true e left those x means later = absurd cc
    go false false e left those x means later = later

-- a query with parameters shows all columns of the rows that pass, in the order of their numbers
pub shows_passing : {A V : Type 0} (layout : Layout) (items : V → List Row) (it : TableOf A) (tests project : List Term) (names : List (List ℕ)) (sql : List ℕ) (params : Row)
    → ((s : Schema) → HasTables layout s → AsksAs s sql (sought it.number tests project) names)
    → given_at [] it.number ≡ None → IsTrue (has_table layout it.number) → ((row : Row) → eval_all project (params ∷ row ∷ []) ≡ columns_of it row)
    → (old new : State) (r : Result V Error) → IsDeskOf layout old → IfOk r (λ v. Shown sql params old new (items v))
    → IfOk r (λ v. (items v ≡ map (columns_of it) (filter (passes tests params) (old.now.trees it.number))) × IsUnchanged old new)
shows_passing layout items it tests project names sql params asks none numbered columns old new (Err e) was h = tt
shows_passing layout items it tests project names sql params asks none numbered columns old new (Ok v) was h =
    let of = asks old.now.schema was.schema in
    let got = reads_as sql params old new old.now.schema refl (Select (record { lets = []; body = sought it.number tests project }) names) of.is of.plain of.unlisted (items v) h in (
      sought_in_order it.number tests project params old.now.trees none (items v) (was.rising it.number numbered).0 (got.answer Null) ∙ map-same columns (filter (passes tests params) (old.now.trees it.number)),
      shown_same sql params old new old.now.schema refl of.plain (items v) h,
    )

-- and so the records that pass
pub finds : {A V : Type 0} (layout : Layout) (items : V → List Row) (it : TableOf A) (tests project : List Term) (names : List (List ℕ)) (sql : List ℕ) (params : Row) (test : A → Bool)
    → ((s : Schema) → HasTables layout s → AsksAs s sql (sought it.number tests project) names)
    → given_at [] it.number ≡ None → IsTrue (has_table layout it.number) → ((row : Row) → eval_all project (params ∷ row ∷ []) ≡ columns_of it row)
    → ((row : Row) (x : A) → it.means (columns_of it row) ≡ Some x → passes tests params row ≡ test x)
    → (old new : State) (r : Result V Error) → IsDeskOf layout old → IfOk r (λ v. Shown sql params old new (items v))
    → IfOk r (λ v. ((was : List A) → records_in it old.now.trees ≡ Some was → all_meanings it.means (items v) ≡ Some (filter test was)) × IsUnchanged old new)
finds {A} {V} layout items it tests project names sql params test asks none numbered columns same old new r was h = go r (shows_passing layout items it tests project names sql params asks none numbered columns old new r was h)
  where
    rows : List Row
    rows = old.now.trees it.number

    go : (r : Result V Error) → IfOk r (λ v. (items v ≡ map (columns_of it) (filter (passes tests params) rows)) × IsUnchanged old new)
        → IfOk r (λ v. ((was : List A) → records_in it old.now.trees ≡ Some was → all_meanings it.means (items v) ≡ Some (filter test was)) × IsUnchanged old new)
    go (Ok v) h = (λ records known. subst (λ l. all_meanings it.means l ≡ Some (filter test records)) (sym h.0) (found_records it (passes tests params) test same rows records known), h.1)
    go (Err e) h = tt
