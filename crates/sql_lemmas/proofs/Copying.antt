-- What INSERT of the rows of another table does, each under the number that it has there.
use Rattle.std.proofs.Common.{◌≡◌, ◌≢◌, ℕ, ℤ, pos, List, [], ◌∷◌, ◌++◌, map, drop, slice_get, Bool, true, false, if◌then◌else◌, Less, Some, None, Ok, Err, Result, OnOk, IsTrue, refl, sym, ap, subst, ◌∙◌, append_assoc}
use Rattle.std.proofs.lemmas.List.{append-nil}
use Rattle.std.proofs.lemmas.Bool.{and_parts}
use Rattle.std.specs.List.{AllByRecursion}
use Rattle.sqlite.specs.declared.types.Value.TheVariants.{Null, Int}
use Rattle.sqlite.specs.Cast.{cast_row}
use Rattle.sqlite.specs.Collation.{Collation}
use Rattle.sqlite.specs.Edit.{have_rowids, numbered, put_all}
use Rattle.sqlite.specs.Effect.{IsDatabase}
use Rattle.sqlite.specs.Listing.{understood}
use Rattle.sqlite.specs.Order.{Row, value_cmp}
use Rattle.sqlite.specs.Program.{given_at, overlay}
use Rattle.sqlite.specs.Query.{IsAnswer, Query}
use Rattle.sqlite.specs.Rows.{count_of, rowids_for, stamped}
use Rattle.sqlite.specs.Schema.{Schema}
use Rattle.sqlite.specs.Command.TheVariants.{Insert}
use Rattle.sqlite.specs.Source.TheVariants.{Query as Queried}
use Rattle.sqlite.specs.State.{State, ExecutesInside}
use Rattle.sqlite.specs.Table.{Table}
use Rattle.sqlite.specs.Term.{Term, col, eval_all, lit}
use Rattle.sqlite.specs.Tree.{IsTable, Trees, put_row, rowid}
use Rattle.sqlite.specs.declared.error.Error.{Error}
use Rattle.sqlite_schema.specs.declared.program.Program.{Program}
use Rattle.sqlite.proofs.Callers.{IsPlain, command_of, statement_of, runs_as}
use Rattle.sqlite_trees.proofs.ListLemmas.{all-append, map-map}
use Rattle.sqlite_trees.proofs.TreeLemmas.{IsShaped-put_row}
use Rattle.sqlite_trees.specs.View.{is_int}
use Rattle.sql_rows.specs.Meanings.{all_meanings}
use Rattle.sql_schema.specs.CopiedRows.{Copies, in_first_session}
use Rattle.sql_schema.specs.Statements.{DeclaresNothing, HasTables, IsDesk, IsDeskOf, IsRising, KeepsOthersIn, Layout, TableOf, columns_of, has_table, layout_two}
use Rattle.sql_schema.specs.SqlTexts.{copying_text}
use Rattle.sql_lemmas.proofs.Acting.{step}
use Rattle.sql_lemmas.proofs.Frames.{AreApart, no_count, still_desk, twos_apart}
use Rattle.sql_lemmas.proofs.GivenNumbers.{each_means}
use Rattle.sql_lemmas.proofs.Listing.{shown_terms}
use Rattle.sql_lemmas.proofs.Reading.{in_order, whole}
use Rattle.sql_lemmas.proofs.Seq.{chosen_by, is_its_id, put_last}
use Rattle.sql_lemmas.proofs.Writing.{insert_edit, inserted_from}

-- ---- rows whose numbers rise, put into a table with no row

-- rows with numbers of their own keep them
own_numbers : (counts : Bool) (last : ℤ) (there rows : List Row) → AllByRecursion (λ r. IsTrue (is_int (rowid r))) rows → numbered (chosen_by counts last) there rows ≡ rows
own_numbers counts last there [] h = refl
own_numbers true last there (r ∷ rows) h = rw (is_its_id r h.0) (ap (λ l. r ∷ l) (own_numbers true last (put_row r there) rows h.1))
own_numbers false last there (r ∷ rows) h = rw (is_its_id r h.0) (ap (λ l. r ∷ l) (own_numbers false last (put_row r there) rows h.1))

-- each of the first is below each of the others
abbrev AreBelow : List Row → List Row → Type 0
AreBelow there [] = Unit {0}
AreBelow there (r ∷ rows) = AllByRecursion (λ x. value_cmp (rowid x) (rowid r) ≡ Less) there × AreBelow there rows

none_below : (rows : List Row) → AreBelow [] rows
none_below [] = tt
none_below (r ∷ rows) = (tt, none_below rows)

one_more : (there : List Row) (r : Row) (rows : List Row) → AreBelow there rows → AllByRecursion (λ x. value_cmp (rowid r) (rowid x) ≡ Less) rows → AreBelow (there ++ r ∷ []) rows
one_more there r [] low up = tt
one_more there r (x ∷ rows) low up = (all-append (λ y. value_cmp (rowid y) (rowid x) ≡ Less) there (r ∷ []) low.0 (up.0, tt), one_more there r rows low.1 up.1)

all_placed : (there rows : List Row) → AreBelow there rows → IsTable rows → put_all there rows ≡ there ++ rows
all_placed there [] low up = sym (append-nil there)
all_placed there (r ∷ rows) low up = ap (λ l. put_all l rows) (put_last r there low.0) ∙ all_placed (there ++ r ∷ []) rows (one_more there r rows low.1 up.0) up.1 ∙ append_assoc there (r ∷ []) rows

-- rows that are put in leave the numbers rising
all_risen : (there rows : List Row) → IsRising there → have_rowids rows ≡ true → IsRising (put_all there rows)
all_risen there [] up h = up
all_risen there (r ∷ rows) up h = let both = and_parts (is_int (rowid r)) (have_rowids rows) h in all_risen (put_row r there) rows (IsShaped-put_row r there both.0 up) both.1

-- ---- rows that are copied

module _ (copy : Row → Row) (keeps : (r : Row) → IsTrue (is_int (rowid r)) → rowid (copy r) ≡ rowid r) where
  keyed_copies : (rows : List Row) → AllByRecursion (λ r. IsTrue (is_int (rowid r))) rows → AllByRecursion (λ r. IsTrue (is_int (rowid r))) (map copy rows)
  keyed_copies [] h = tt
  keyed_copies (r ∷ rows) h = (subst (λ v. IsTrue (is_int v)) (sym (keeps r h.0)) h.0, keyed_copies rows h.1)

  same_numbers : (rows : List Row) → AllByRecursion (λ r. IsTrue (is_int (rowid r))) rows → map rowid (map copy rows) ≡ map rowid rows
  same_numbers [] h = refl
  same_numbers (r ∷ rows) h = rw (keeps r h.0, same_numbers rows h.1) refl

  above_copies : (r : Row) (rows : List Row) → IsTrue (is_int (rowid r)) → AllByRecursion (λ x. IsTrue (is_int (rowid x))) rows → AllByRecursion (λ x. value_cmp (rowid r) (rowid x) ≡ Less) rows
      → AllByRecursion (λ x. value_cmp (rowid (copy r)) (rowid x) ≡ Less) (map copy rows)
  above_copies r [] key keys h = tt
  above_copies r (x ∷ rows) key keys h = (rw (keeps r key, keeps x keys.0) h.0, above_copies r rows key keys.1 h.1)

  rising_copies : (rows : List Row) → IsTable rows → AllByRecursion (λ r. IsTrue (is_int (rowid r))) rows → IsTable (map copy rows)
  rising_copies [] up h = tt
  rising_copies (r ∷ rows) up h = (above_copies r rows h.0 h.1 up.0, rising_copies rows up.1 h.1)

  -- put into a table with no row, they are its rows
  all_copied : (counts : Bool) (last : ℤ) (rows : List Row) → IsRising rows → put_all [] (numbered (chosen_by counts last) [] (map copy rows)) ≡ map copy rows
  all_copied counts last rows up =
      ap (put_all []) (own_numbers counts last [] (map copy rows) (keyed_copies rows up.1)) ∙ all_placed [] (map copy rows) (none_below (map copy rows)) (rising_copies rows up.0 up.1)

-- the rows of one table are copied into another, which had none, and nothing else is changed
pub record PutsCopies (layout : Layout) (from to : ℕ) (copy : Row → Row) (old new : State) : Type 0 where
  pub rows : old.now.trees to ≡ [] → new.now.trees to ≡ map copy (old.now.trees from)
  pub others : KeepsOthersIn layout to old new
  pub schema : DeclaresNothing old new
  pub desk : IsDeskOf layout new
  pub inside : IsTrue new.in_transaction
  pub sound : IsDatabase new.now

-- a query that shows rows once asks for no order of texts
abbrev pub whole_by : List Collation → ℕ → List Term → Query
whole_by by tree project = record (whole tree project) { collations = by }

by_none : (by : List Collation) (tree : ℕ) (project : List Term) (db : Trees) (params : Row) (rows : List Row) → IsAnswer (whole_by by tree project) db params rows → IsAnswer (whole tree project) db params rows
by_none by tree project db params rows a = record { staged = a.staged; grouped = a.grouped; kept = a.kept; distinct = a.distinct; ordered = a.ordered; same = a.same; sorted = a.sorted; shown = a.shown }

-- what a row is copied as
abbrev pub copy_by : Table → List Term → Row → Row
copy_by table project row = cast_row table (drop 0 (eval_all project ([] ∷ row ∷ [])))

module _ {layout : Layout} {schema : Schema} (apart : AreApart layout schema) (at : ℕ) (table : Table) (by : List Collation) (from : ℕ) (project : List Term) (text : List ℕ)
    (is : command_of (understood schema text) ≡ Insert at (Queried (record { lets = []; body = whole_by by from project }))) (plain : IsPlain (understood schema text))
    (there : slice_get schema.tables at ≡ Some table) (numbered_so : IsTrue (has_table layout table.tree)) (from_so : IsTrue (has_table layout from)) (none : given_at [] from ≡ None) (bare : stamped table [] ≡ [])
    (keeps : (r : Row) → IsTrue (is_int (rowid r)) → rowid (copy_by table project r) ≡ rowid r) where
  pub puts_copies : (old new : State) (r : Result ℕ Error) → old.now.schema ≡ schema → IsDeskOf layout old → IsTrue old.in_transaction → ExecutesInside 0 text [] old new r → OnOk r (PutsCopies layout from table.tree (copy_by table project) old new)
  puts_copies old new (Err e) has was inside h = tt
  puts_copies old new (Ok count) has was inside h =
      let q : Program = record { lets = []; body = whole_by by from project } in
      let w = runs_as text [] old new schema has (Insert at (Queried q)) is plain count h.0 in
      let found = inserted_from apart old new at table (Queried q) (statement_of text (understood schema text)) [] count has there w in
      let i = found.2 in
      let db = old.now.trees in
      let rows = db from in
      let up = was.rising from from_so in
      let answer = subst (λ (params : Row). IsAnswer (whole_by by from project) (overlay db []) params found.0) bare (found.1.answer Null) in
      let shown : found.0 ≡ map (λ r. eval_all project ([] ∷ r ∷ [])) rows = in_order from project db none found.0 up.0 (by_none by from project (overlay db []) [] found.0 answer) in
      let news : map (λ s. cast_row table (drop 0 s)) found.0 ≡ map (copy_by table project) rows = ap (map (λ s. cast_row table (drop 0 s))) shown ∙ map-map (λ s. cast_row table (drop 0 s)) (λ r. eval_all project ([] ∷ r ∷ [])) rows in
      let last = count_of i.counter in
      let edit = insert_edit db table i.counter found.0 in
      let mine : new.now.trees table.tree ≡ put_all (db table.tree) edit.news = i.preserved apart.counts apart.counted table.tree numbered_so (no_count apart table.tree numbered_so) ∙ i.put.rows in
      let preserved = λ (number : ℕ) (is_one : IsTrue (has_table layout number)) (other : number ≢ table.tree). i.preserved apart.counts apart.counted number is_one (no_count apart number is_one) ∙ step apart db i.mid edit i.put number is_one other in
      let rises : IsRising (new.now.trees table.tree) = subst IsRising (sym mine) (all_risen (db table.tree) edit.news (was.rising table.tree numbered_so) i.put.keyed) in
      record {
        rows = λ empty.
            mine ∙ ap (λ l. put_all (db table.tree) (numbered (rowids_for table last) (db table.tree) l)) news
            ∙ ap (λ l. put_all l (numbered (rowids_for table last) l (map (copy_by table project) rows))) empty
            ∙ all_copied (copy_by table project) keeps table.is_counted last rows up;
        others = preserved;
        schema = i.same_schema ∙ sym has;
        desk = still_desk table.tree old new was (i.same_schema ∙ sym has) preserved rises;
        inside = w.shown.mode ∙ inside;
        sound = w.sound;
      }

-- ---- what the rows mean

module _ {A : Type 0} (one two : TableOf A) where
  -- the columns of a row that means something are copied, with the first session
  abbrev pub CopiesColumns : (Row → Row) → Type 0
  CopiesColumns copy = (row : Row) (x : A) → one.means (columns_of one row) ≡ Some x → columns_of two (copy row) ≡ in_first_session (columns_of one row)

  columns_copied : (copy : Row → Row) → CopiesColumns copy → (rows : List Row) (was : List A) → all_meanings one.means (map (columns_of one) rows) ≡ Some was
      → map (columns_of two) (map copy rows) ≡ map in_first_session (map (columns_of one) rows)
  columns_copied copy each [] was h = refl
  columns_copied copy each (row ∷ rows) was h =
      let it = each_means one.means (columns_of one row) (map (columns_of one) rows) was h in
      rw (each row it.0 it.2, columns_copied copy each rows it.1 it.3) refl

  pub copies : (copy : Row → Row) → ((r : Row) → IsTrue (is_int (rowid r)) → rowid (copy r) ≡ rowid r) → CopiesColumns copy → (old new : State) (r : Result ℕ Error) → IsRising (old.now.trees one.number)
      → OnOk r (PutsCopies layout_two one.number two.number copy old new) → OnOk r (Copies one two old new)
  copies copy keeps each old new (Err e) up h = tt
  copies copy keeps each old new (Ok count) up h = record {
    copied = λ was known empty. record {
      numbers = ap (map rowid) (h.rows empty) ∙ same_numbers copy keeps (old.now.trees one.number) up.1;
      rows = ap (map (columns_of two)) (h.rows empty) ∙ columns_copied copy each (old.now.trees one.number) was known;
    };
    others = h.others;
    schema = h.schema;
    desk = h.desk;
    inside = h.inside;
    sound = h.sound;
  }

-- ---- the statement

-- the terms that show a row with its number, and with the first session behind the meeting
abbrev pub copied_terms : Table → List Term → List Term
copied_terms table [] = []
copied_terms table (meeting ∷ others) = col 1 0 ∷ (if table.is_counted then lit Null ∷ [] else []) ++ meeting ∷ lit (Int (pos 1)) ∷ others

-- in this schema the text made of two tables copies the rows of the first into the second
pub record CopiesTable {A : Type 0} (one two : TableOf A) (from table : Table) (schema : Schema) : Type 0 where
  pub place : ℕ
  pub by : List Collation
  pub is : command_of (understood schema (copying_text from table)) ≡ Insert place (Queried (record { lets = []; body = whole_by by one.number (copied_terms table (shown_terms one)) }))
  pub plain : IsPlain (understood schema (copying_text from table))
  pub there : slice_get schema.tables place ≡ Some (record table { tree = two.number })
  pub numbered : IsTrue (has_table layout_two two.number)
  pub from_numbered : IsTrue (has_table layout_two one.number)
  pub none : given_at [] one.number ≡ None
  pub bare : stamped (record table { tree = two.number }) [] ≡ []

pub table_copied : {A : Type 0} {one two : TableOf A} {from table : Table} → ((schema : Schema) → HasTables layout_two schema → CopiesTable one two from table schema)
    → (copy : Row → Row) → ((row : Row) → copy_by (record table { tree = two.number }) (copied_terms table (shown_terms one)) row ≡ copy row)
    → ((r : Row) → IsTrue (is_int (rowid r)) → rowid (copy r) ≡ rowid r) → CopiesColumns one two copy
    → (old new : State) (r : Result ℕ Error) → IsDesk old → IsTrue old.in_transaction → ExecutesInside 0 (copying_text from table) [] old new r → OnOk r (Copies one two old new)
table_copied {one = one} {two = two} {from = from} {table = table} texts copy same keeps each old new r was inside h =
    let it = texts old.now.schema was.schema in
    let terms = copied_terms table (shown_terms one) in
    let target = record table { tree = two.number } in
    let copying : (λ row. copy_by target terms row) ≡ copy = λ i. λ row. same row i in
    copies one two copy keeps each old new r (was.rising one.number it.from_numbered)
    (subst (λ c. OnOk r (PutsCopies layout_two one.number two.number c old new)) copying
    (puts_copies (twos_apart old.now.schema was.schema) it.place target it.by one.number terms (copying_text from table) it.is it.plain it.there it.numbered it.from_numbered it.none it.bare
    (λ row key. ap rowid (same row) ∙ keeps row key) old new r refl was inside h))
