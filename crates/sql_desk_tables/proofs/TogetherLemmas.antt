-- What INSERT of several rows does to the tables of a desk, and to `register`.
use Rattle.std.proofs.Common.{◌≡◌, ◌≢◌, ℕ, suc, ℤ, List, [], ◌∷◌, ◌++◌, codes, flat_map, length, map, drop, slice_get, Bool, true, false, Some, Ok, Err, Result, OnOk, IsTrue, refl, sym, ap, subst, ◌∙◌, append_assoc}
use Rattle.std.proofs.lemmas.List.{append-nil}
use Rattle.std.specs.List.{range_with_len}
use Rattle.sqlite.specs.declared.types.Value.TheVariants.{Null, Int, Text}
use Rattle.sqlite.specs.Effect.{IsDatabase}
use Rattle.sqlite.specs.Order.{Row}
use Rattle.sqlite.specs.Term.{Term, lit, col}
use Rattle.sqlite.specs.Table.{Table}
use Rattle.sqlite.specs.Schema.{Schema}
use Rattle.sqlite.specs.Source.TheVariants.{Values}
use Rattle.sqlite.specs.Command.TheVariants.{Insert}
use Rattle.sqlite.specs.Cast.{cast_row}
use Rattle.sqlite.specs.Edit.{at_least, edited, next_rowid, numbered, put_all, with_rowid}
use Rattle.sqlite.specs.Rows.{count_of, rowids_for}
use Rattle.sqlite.specs.Tree.{put_row}
use Rattle.sqlite.specs.declared.error.Error.{Error}
use Rattle.sqlite.specs.Listing.{understood}
use Rattle.sqlite.specs.State.{State, ExecutesInside}
use Rattle.sqlite.proofs.Callers.{IsPlain, command_of, statement_of, runs_as}
use Rattle.sqlite_tied.specs.Compute.{everything}
use Rattle.sqlite_trees.proofs.TreeLemmas.{IsShaped-put_row}
use Rattle.desk_words.specs.declared.records.RegisterRow.{RegisterRow}
use Rattle.vocabulary.specs.Names.{meeting_of}
use Rattle.sql_rows.specs.ColumnValues.{number_in, parsed_in, parsed_word_in}
use Rattle.sql_rows.specs.Meanings.{all_meanings}
use Rattle.sql_rows.specs.Meetings.{holding_in}
use Rattle.sql_schema.specs.Contents.{register}
use Rattle.sql_schema.specs.Statements.{DeclaresNothing, HasTables, IsDesk, IsDeskOf, IsRising, KeepsOthersIn, Layout, TableOf, columns_of, has_table, layout_two}
use Rattle.sql_schema.specs.Tables.{register_table as table}
use Rattle.sql_lemmas.proofs.Acting.{step}
use Rattle.sql_lemmas.proofs.Frames.{AreApart, RunsOn, no_count, still_desk, twos_apart, wide_one}
use Rattle.sql_lemmas.proofs.Meanings.{records_added}
use Rattle.sql_lemmas.proofs.Seq.{chosen_by, put_last, below_chosen}
use Rattle.sql_lemmas.proofs.Values.{cast_int, cast_null}
use Rattle.sql_lemmas.proofs.Writing.{inserted, insert_edit, rows_of_values}
use Rattle.sql_desk_tables.specs.Together.{AddsAll, AreValuesOf, EachMeans, RowValues, rows_of_meeting, values_row}

-- ---- rows with no numbers of their own

-- the rows are these cells, each behind a number
abbrev HaveCells : List Row → List Row → Type 0
HaveCells [] [] = Unit {0}
HaveCells (r ∷ rows) (c ∷ cells) = ((id : ℤ) × (r ≡ Int id ∷ c)) × HaveCells rows cells
HaveCells rows cells = ⊥

abbrev unnumbered : List Row → List Row
unnumbered = map (λ c. Null ∷ c)

-- put in, they stand last, and the numbers still rise
record Placed (counts : Bool) (last : ℤ) (rows cells : List Row) : Type 0 where
  added : List Row
  have : HaveCells added cells
  placed : put_all rows (numbered (chosen_by counts last) rows (unnumbered cells)) ≡ rows ++ added
  rises : IsRising (rows ++ added)

gets_next : (counts : Bool) (last : ℤ) (rows : List Row) (c : Row) → with_rowid (chosen_by counts last) rows (Null ∷ c) ≡ Int (at_least (chosen_by counts last) (next_rowid rows)) ∷ c
gets_next true last rows c = refl
gets_next false last rows c = refl

placed_rows : (counts : Bool) (last : ℤ) (rows cells : List Row) → IsRising rows → Placed counts last rows cells
placed_rows counts last rows [] up = record { added = []; have = tt; placed = sym (append-nil rows); rises = subst IsRising (sym (append-nil rows)) up }
placed_rows counts last rows (c ∷ cells) up =
    let id = at_least (chosen_by counts last) (next_rowid rows) in
    let row = Int id ∷ c in
    let last_is : put_row row rows ≡ rows ++ row ∷ [] = put_last row rows (below_chosen counts last rows up) in
    let rest = placed_rows counts last (rows ++ row ∷ []) cells (subst IsRising last_is (IsShaped-put_row row rows refl up)) in
    record {
      added = row ∷ rest.added;
      have = ((id, refl), rest.have);
      placed = rw (gets_next counts last rows c, last_is) (rest.placed ∙ append_assoc rows (row ∷ []) rest.added);
      rises = subst IsRising (append_assoc rows (row ∷ []) rest.added) rest.rises;
    }

-- ---- the statement

-- rows of these cells are added after the others, under some numbers, and nothing else is changed
record AddsRows (layout : Layout) (number : ℕ) (cells : List Row) (old new : State) : Type 0 where
  added : List Row
  have : HaveCells added cells
  rows : new.now.trees number ≡ old.now.trees number ++ added
  others : KeepsOthersIn layout number old new
  schema : DeclaresNothing old new
  desk : IsDeskOf layout new
  inside : IsTrue new.in_transaction
  sound : IsDatabase new.now

module _ {layout : Layout} {schema : Schema} (apart : AreApart layout schema) (at : ℕ) (table : Table) (terms : List Term) (width : ℕ) (text : List ℕ) (params : Row) (cells : List Row)
    (is : command_of (understood schema text) ≡ Insert at (Values terms width)) (plain : IsPlain (understood schema text))
    (there : slice_get schema.tables at ≡ Some table) (numbered_so : IsTrue (has_table layout table.tree))
    (cast : map (λ s. cast_row table (drop 0 s)) (rows_of_values table params width terms) ≡ unnumbered cells) where
  adds_rows : (old new : State) (r : Result ℕ Error) → old.now.schema ≡ schema → IsDeskOf layout old → IsTrue old.in_transaction → ExecutesInside 0 text params old new r → OnOk r (AddsRows layout table.tree cells old new)
  adds_rows old new (Err e) has was inside h = tt
  adds_rows old new (Ok count) has was inside h =
      let w = runs_as text params old new schema has (Insert at (Values terms width)) is plain count h.0 in
      let i = inserted apart old new at table terms width (statement_of text (understood schema text)) params count has there w in
      let db = old.now.trees in
      let last = count_of i.counter in
      let all = placed_rows table.is_counted last (db table.tree) cells (was.rising table.tree numbered_so) in
      let put : edited db (insert_edit db table i.counter (rows_of_values table params width terms)) ≡ db table.tree ++ all.added =
      ap (λ (l : List Row). put_all (db table.tree) (numbered (rowids_for table last) (db table.tree) l)) cast ∙ all.placed in
      let mine : new.now.trees table.tree ≡ db table.tree ++ all.added = i.preserved apart.counts apart.counted table.tree numbered_so (no_count apart table.tree numbered_so) ∙ i.put.rows ∙ put in
      let preserved = λ (number : ℕ) (is_one : IsTrue (has_table layout number)) (other : number ≢ table.tree). i.preserved apart.counts apart.counted number is_one (no_count apart number is_one) ∙ step apart db i.mid (insert_edit db table i.counter (rows_of_values table params width terms)) i.put number is_one other in
      let rises : IsRising (new.now.trees table.tree) = subst IsRising (sym mine) all.rises in
      record { added = all.added; have = all.have; rows = mine; others = preserved; schema = i.same_schema ∙ sym has; desk = still_desk table.tree old new was (i.same_schema ∙ sym has) preserved rises; inside = w.shown.mode ∙ inside; sound = w.sound }

-- ---- what the rows mean

module _ {A : Type 0} (it : TableOf A) where
  -- behind any number, these cells mean these records
  abbrev CellsMean : List Row → List A → Type 0
  CellsMean [] [] = Unit {0}
  CellsMean (c ∷ cells) (x ∷ records) = ((id : ℤ) → it.means (columns_of it (Int id ∷ c)) ≡ Some x) × CellsMean cells records
  CellsMean cells records = ⊥

  rows_mean : (rows added cells : List Row) (was records : List A) → HaveCells added cells → CellsMean cells records → all_meanings it.means (map (columns_of it) rows) ≡ Some was
      → all_meanings it.means (map (columns_of it) (rows ++ added)) ≡ Some (was ++ records)
  rows_mean rows [] [] was [] have means known = rw (append-nil rows, append-nil was) known
  rows_mean rows [] [] was (x ∷ records) have means known = absurd means
  rows_mean rows [] (c ∷ cells) was records have means known = absurd have
  rows_mean rows (r ∷ added) [] was records have means known = absurd have
  rows_mean rows (r ∷ added) (c ∷ cells) was [] have means known = absurd means
  rows_mean rows (r ∷ added) (c ∷ cells) was (x ∷ records) have means known =
      let one : it.means (columns_of it r) ≡ Some x = rw have.0.1 (means.0 have.0.0) in
      let all = rows_mean (rows ++ r ∷ []) added cells (was ++ x ∷ []) records have.1 means.1 (records_added it rows r was x known one) in
      rw (append_assoc rows (r ∷ []) added, append_assoc was (x ∷ []) records) at all

-- ---- `register`

abbrev pub together_text : List ℕ
together_text = codes "INSERT INTO register (meeting, member, kind, name, shares, paid) VALUES (?1, ?2, ?3, ?4, ?5, ?6), (?1, ?7, ?8, ?9, ?10, ?11), (?1, ?12, ?13, ?14, ?15, ?16), (?1, ?17, ?18, ?19, ?20, ?21), (?1, ?22, ?23, ?24, ?25, ?26), (?1, ?27, ?28, ?29, ?30, ?31), (?1, ?32, ?33, ?34, ?35, ?36), (?1, ?37, ?38, ?39, ?40, ?41)"

-- a row of the meeting, and of the five values from one on
abbrev terms_from : ℕ → List Term
terms_from from = lit Null ∷ col 0 0 ∷ map (col 0) (range_with_len from 5)

abbrev together_terms : List Term
together_terms = flat_map terms_from (1 ∷ 6 ∷ 11 ∷ 16 ∷ 21 ∷ 26 ∷ 31 ∷ 36 ∷ [])

together_runs : (s : Schema) → HasTables layout_two s → RunsOn s together_text (Insert 6 (Values together_terms 7)) 6 (record table { tree = 10 })
unfolding understood everything
together_runs = wide_one (λ s. RunsOn s together_text (Insert 6 (Values together_terms 7)) 6 (record table { tree = 10 })) (λ others apart indexes views. record { is = refl; plain = (refl, refl); there = refl })

-- the cells of a row of the meeting
abbrev cells_of : List ℕ → RowValues → Row
cells_of name v = Text name ∷ values_row v

params_of : (name : List ℕ) (each : List RowValues) → length each ≡ 8
    → rows_of_values (record table { tree = 10 }) (Text name ∷ flat_map values_row each) 7 together_terms ≡ unnumbered (map (cells_of name) each)
params_of name (a ∷ b ∷ c ∷ d ∷ e ∷ f ∷ g ∷ h ∷ []) is = refl
params_of name [] is = absurd cc
params_of name (a ∷ []) is = absurd cc
params_of name (a ∷ b ∷ []) is = absurd cc
params_of name (a ∷ b ∷ c ∷ []) is = absurd cc
params_of name (a ∷ b ∷ c ∷ d ∷ []) is = absurd cc
params_of name (a ∷ b ∷ c ∷ d ∷ e ∷ []) is = absurd cc
params_of name (a ∷ b ∷ c ∷ d ∷ e ∷ f ∷ []) is = absurd cc
params_of name (a ∷ b ∷ c ∷ d ∷ e ∷ f ∷ g ∷ []) is = absurd cc
params_of name (a ∷ b ∷ c ∷ d ∷ e ∷ f ∷ g ∷ h ∷ i ∷ more) is = absurd cc

-- such cells are kept as they are
all_cast : (name : List ℕ) (each : List RowValues) → map (λ s. cast_row (record table { tree = 10 }) (drop 0 s)) (unnumbered (map (cells_of name) each)) ≡ unnumbered (map (cells_of name) each)
all_cast name [] = refl
all_cast name (v ∷ each) = rw (cast_null, cast_int v.shares, cast_int v.paid, all_cast name each) refl

alike : (each : List RowValues) (rows : List RegisterRow) → EachMeans each rows → length each ≡ length rows
alike [] [] h = refl
alike [] (row ∷ rows) h = absurd h
alike (v ∷ each) [] h = absurd h
alike (v ∷ each) (row ∷ rows) h = ap suc (alike each rows h.1)

-- the values of one row more
pub values_more : (each : List RowValues) (v : RowValues) → flat_map values_row (each ++ v ∷ []) ≡ flat_map values_row each ++ values_row v
values_more [] v = append-nil (values_row v)
values_more (u ∷ each) v = ap (λ l. values_row u ++ l) (values_more each v)

pub means_more : (each : List RowValues) (v : RowValues) (rows : List RegisterRow) (row : RegisterRow) → EachMeans each rows → AreValuesOf v row → EachMeans (each ++ v ∷ []) (rows ++ row ∷ [])
means_more [] v [] row h means = (means, tt)
means_more [] v (r ∷ rows) row h means = absurd h
means_more (u ∷ each) v [] row h means = absurd h
means_more (u ∷ each) v (r ∷ rows) row h means = (h.0, means_more each v rows row h.1 means)

-- one value more behind those that were pushed
pub pushed : {X : Type 0} (was mid new more : List X) (x : X) → mid ≡ was ++ more → new ≡ mid ++ x ∷ [] → new ≡ was ++ (more ++ x ∷ [])
pushed was mid new more x before is = is ∙ ap (λ l. l ++ x ∷ []) before ∙ append_assoc was more (x ∷ [])

module _ (m name : List ℕ) (meeting_is : meeting_of name ≡ Some m) where
  all_mean : (each : List RowValues) (rows : List RegisterRow) → EachMeans each rows → CellsMean register (map (cells_of name) each) (rows_of_meeting m rows)
  unfolding holding_in number_in parsed_in parsed_word_in
  all_mean [] [] h = tt
  all_mean [] (row ∷ rows) h = absurd h
  all_mean (v ∷ each) [] h = absurd h
  all_mean (v ∷ each) (row ∷ rows) h = ((λ id. rw (meeting_is, h.0.member, h.0.kind, h.0.name, h.0.shares, h.0.paid) refl), all_mean each rows h.1)

  pub adds_together : (each : List RowValues) (rows : List RegisterRow) → length rows ≡ 8 → EachMeans each rows → (old new : State) (r : Result ℕ Error) → IsDesk old → IsTrue old.in_transaction
      → ExecutesInside 0 together_text (Text name ∷ flat_map values_row each) old new r → OnOk r (AddsAll register (rows_of_meeting m rows) old new)
  adds_together each rows as_many means old new (Err e) was inside h = tt
  adds_together each rows as_many means old new (Ok count) was inside h =
      let of = together_runs old.now.schema was.schema in
      let cast = ap (map (λ s. cast_row (record table { tree = 10 }) (drop 0 s))) (params_of name each (alike each rows means ∙ as_many)) ∙ all_cast name each in
      let added = adds_rows (twos_apart old.now.schema was.schema) 6 (record table { tree = 10 }) together_terms 7 together_text (Text name ∷ flat_map values_row each) (map (cells_of name) each) of.is of.plain of.there refl cast old new (Ok count) refl was inside h in
      record {
        records = λ known is. rw added.rows (rows_mean register (old.now.trees 10) added.added (map (cells_of name) each) known (rows_of_meeting m rows) added.have (all_mean each rows means) is);
        others = added.others;
        schema = added.schema;
        desk = added.desk;
        inside = added.inside;
        sound = added.sound;
      }
