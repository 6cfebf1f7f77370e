-- What INSERT of one row does to the tables of a desk.
use Rattle.std.proofs.Common.{◌≡◌, ◌≢◌, ℕ, suc, ℤ, List, [], ◌∷◌, ◌++◌, map, length, drop, slice_get, if◌then◌else◌, Bool, true, false, Some, Ok, Err, Result, OnOk, IsTrue, refl, sym, ap, subst, ◌∙◌}
use Rattle.sqlite.specs.declared.types.Value.TheVariants.{Null, Int}
use Rattle.sqlite.specs.Effect.{IsDatabase}
use Rattle.sqlite.specs.Order.{Row}
use Rattle.sqlite.specs.Term.{Term, lit, col}
use Rattle.sqlite.specs.Table.{Table}
use Rattle.sqlite.specs.Schema.{Schema}
use Rattle.sqlite.specs.Source.TheVariants.{Values}
use Rattle.sqlite.specs.Command.TheVariants.{Insert}
use Rattle.sqlite.specs.Cast.{cast_row}
use Rattle.sqlite.specs.Edit.{at_least, next_rowid, edited, numbered, put_all}
use Rattle.sqlite.specs.Rows.{count_of, rowids_for}
use Rattle.sqlite.specs.declared.error.Error.{Error}
use Rattle.sqlite.specs.Listing.{understood}
use Rattle.sqlite.specs.State.{State, ExecutesInside}
use Rattle.sqlite.proofs.Callers.{IsPlain, command_of, statement_of, runs_as}
use Rattle.sqlite_trees.proofs.TreeLemmas.{IsShaped-put_row}
use Rattle.sql_schema.specs.Statements.{Layout, HasTables, TableOf, columns_of, has_table, IsDeskOf, IsRising, KeepsOthersIn, ChangesIn, DeclaresNothing}
use Rattle.sql_schema.specs.SqlTexts.{adding_text, given_names}
use Rattle.std.specs.List.{AllByRecursion, range_with_len}
use Rattle.sql_lemmas.proofs.Seq.{IsBelow, chosen_by, put_last, below_chosen}
use Rattle.sql_lemmas.proofs.Writing.{inserted, insert_edit, rows_of_values}
use Rattle.sql_lemmas.proofs.Frames.{AreApart, still_desk, no_count}
use Rattle.sql_lemmas.proofs.Acting.{step}
use Rattle.sql_lemmas.proofs.Meanings.{records_added}

-- a row is added after the others, under some number, and nothing else is changed
pub record AddsRow (layout : Layout) (number : ℕ) (cells : Row) (old new : State) : Type 0 where
  pub id : ℤ
  pub rows : new.now.trees number ≡ old.now.trees number ++ (Int id ∷ cells) ∷ []
  pub others : KeepsOthersIn layout number old new
  pub schema : DeclaresNothing old new
  pub desk : IsDeskOf layout new
  pub inside : IsTrue new.in_transaction
  pub sound : IsDatabase new.now

-- a row with no number of its own gets the next, and stands last
placed : (counts : Bool) (last : ℤ) (rows : List Row) (cells : Row) → IsRising rows
    → put_all rows (numbered (chosen_by counts last) rows ((Null ∷ cells) ∷ [])) ≡ rows ++ (Int (at_least (chosen_by counts last) (next_rowid rows)) ∷ cells) ∷ []
placed true last rows cells up = put_last _ rows (below_chosen true last rows up)
placed false last rows cells up = put_last _ rows (below_chosen false last rows up)

module _ {layout : Layout} {schema : Schema} (apart : AreApart layout schema) (at : ℕ) (table : Table) (terms : List Term) (width : ℕ) (text : List ℕ) (params cells : Row)
    (is : command_of (understood schema text) ≡ Insert at (Values terms width)) (plain : IsPlain (understood schema text))
    (there : slice_get schema.tables at ≡ Some table) (numbered_so : IsTrue (has_table layout table.tree))
    (cast : map (λ s. cast_row table (drop 0 s)) (rows_of_values table params width terms) ≡ (Null ∷ cells) ∷ []) where
  pub adds_row : (old new : State) (r : Result ℕ Error) → old.now.schema ≡ schema → IsDeskOf layout old → IsTrue old.in_transaction → ExecutesInside 0 text params old new r → OnOk r (AddsRow layout table.tree cells old new)
  adds_row old new (Err e) has was inside h = tt
  adds_row old new (Ok count) has was inside h =
      let w = runs_as text params old new schema has (Insert at (Values terms width)) is plain count h.0 in
      let i = inserted apart old new at table terms width (statement_of text (understood schema text)) params count has there w in
      let db = old.now.trees in
      let up = was.rising table.tree numbered_so in
      let last = count_of i.counter in
      let id = at_least (chosen_by table.is_counted last) (next_rowid (db table.tree)) in
      let row = Int id ∷ cells in
      let put : edited db (insert_edit db table i.counter (rows_of_values table params width terms)) ≡ db table.tree ++ row ∷ [] =
      ap (λ (l : List Row). put_all (db table.tree) (numbered (rowids_for table last) (db table.tree) l)) cast ∙ placed table.is_counted last (db table.tree) cells up in
      let mine : new.now.trees table.tree ≡ db table.tree ++ row ∷ [] = i.preserved apart.counts apart.counted table.tree numbered_so (no_count apart table.tree numbered_so) ∙ i.put.rows ∙ put in
      let preserved = λ (number : ℕ) (is_one : IsTrue (has_table layout number)) (other : number ≢ table.tree). i.preserved apart.counts apart.counted number is_one (no_count apart number is_one) ∙ step apart db i.mid (insert_edit db table i.counter (rows_of_values table params width terms)) i.put number is_one other in
      let last_is = put_last row (db table.tree) (below_chosen table.is_counted last (db table.tree) up) in
      let rises : IsRising (new.now.trees table.tree) = subst IsRising (sym (mine ∙ sym last_is)) (IsShaped-put_row row (db table.tree) refl up) in
      record { id = id; rows = mine; others = preserved; schema = i.same_schema ∙ sym has; desk = still_desk table.tree old new was (i.same_schema ∙ sym has) preserved rises; inside = w.shown.mode ∙ inside; sound = w.sound }

-- a row with a number of its own, above the others, keeps it and stands last
placed_so : (counts : Bool) (last : ℤ) (rows : List Row) (id : ℤ) (cells : Row) → AllByRecursion (IsBelow id) rows
    → put_all rows (numbered (chosen_by counts last) rows ((Int id ∷ cells) ∷ [])) ≡ rows ++ (Int id ∷ cells) ∷ []
placed_so true last rows id cells below = put_last _ rows below
placed_so false last rows id cells below = put_last _ rows below

module _ {layout : Layout} {schema : Schema} (apart : AreApart layout schema) (at : ℕ) (table : Table) (terms : List Term) (width : ℕ) (text : List ℕ) (params : Row) (id : ℤ) (cells : Row)
    (is : command_of (understood schema text) ≡ Insert at (Values terms width)) (plain : IsPlain (understood schema text))
    (there : slice_get schema.tables at ≡ Some table) (numbered_so : IsTrue (has_table layout table.tree))
    (cast : map (λ s. cast_row table (drop 0 s)) (rows_of_values table params width terms) ≡ (Int id ∷ cells) ∷ []) where
  pub adds_numbered : (old new : State) (r : Result ℕ Error) → old.now.schema ≡ schema → IsDeskOf layout old → IsTrue old.in_transaction → AllByRecursion (IsBelow id) (old.now.trees table.tree)
      → ExecutesInside 0 text params old new r → OnOk r ((added : AddsRow layout table.tree cells old new) × (added.id ≡ id))
  adds_numbered old new (Err e) has was inside below h = tt
  adds_numbered old new (Ok count) has was inside below h =
      let w = runs_as text params old new schema has (Insert at (Values terms width)) is plain count h.0 in
      let i = inserted apart old new at table terms width (statement_of text (understood schema text)) params count has there w in
      let db = old.now.trees in
      let last = count_of i.counter in
      let row = Int id ∷ cells in
      let put : edited db (insert_edit db table i.counter (rows_of_values table params width terms)) ≡ db table.tree ++ row ∷ [] =
      ap (λ (l : List Row). put_all (db table.tree) (numbered (rowids_for table last) (db table.tree) l)) cast ∙ placed_so table.is_counted last (db table.tree) id cells below in
      let mine : new.now.trees table.tree ≡ db table.tree ++ row ∷ [] = i.preserved apart.counts apart.counted table.tree numbered_so (no_count apart table.tree numbered_so) ∙ i.put.rows ∙ put in
      let preserved = λ (number : ℕ) (is_one : IsTrue (has_table layout number)) (other : number ≢ table.tree). i.preserved apart.counts apart.counted number is_one (no_count apart number is_one) ∙ step apart db i.mid (insert_edit db table i.counter (rows_of_values table params width terms)) i.put number is_one other in
      let rises : IsRising (new.now.trees table.tree) = subst IsRising (sym (mine ∙ sym (put_last row (db table.tree) below))) (IsShaped-put_row row (db table.tree) refl (was.rising table.tree numbered_so)) in
      (record { id = id; rows = mine; others = preserved; schema = i.same_schema ∙ sym has; desk = still_desk table.tree old new was (i.same_schema ∙ sym has) preserved rises; inside = w.shown.mode ∙ inside; sound = w.sound }, refl)

-- what the new row means is added to what the rows mean
pub means_more : {A : Type 0} {layout : Layout} (it : TableOf A) (cells : Row) (added : A) (old new : State) (h : AddsRow layout it.number cells old new) → it.means (columns_of it (Int h.id ∷ cells)) ≡ Some added → ChangesIn layout it (λ was. was ++ added ∷ []) old new
means_more it cells added old new h means = record {
  records = λ was known. rw h.rows (records_added it (old.now.trees it.number) (Int h.id ∷ cells) was added known means);
  others = h.others;
  schema = h.schema;
  desk = h.desk;
  inside = h.inside;
  sound = h.sound;
}

pub adds : {A : Type 0} (layout : Layout) (it : TableOf A) (cells : Row) (added : A) (old new : State) (r : Result ℕ Error) → OnOk r (AddsRow layout it.number cells old new)
    → ((id : ℤ) → it.means (columns_of it (Int id ∷ cells)) ≡ Some added) → OnOk r (ChangesIn layout it (λ was. was ++ added ∷ []) old new)
adds layout it cells added old new (Err e) h means = tt
adds layout it cells added old new (Ok count) h means = means_more it cells added old new h (means h.id)

-- the text, run with these values in a transaction over the tables of a desk, adds the record after the others
abbrev pub AddsBy : {A : Type 0} → Layout → TableOf A → List ℕ → Row → A → Type 1
AddsBy {A} layout it text values added =
    (old new : State) (r : Result ℕ Error) → IsDeskOf layout old → IsTrue old.in_transaction → ExecutesInside 0 text values old new r → OnOk r (ChangesIn layout it (λ was. was ++ added ∷ []) old new)

-- the terms of a row that is added: NULL for its number, for the column of that number too where rows are counted, and each value that is passed
abbrev pub given_terms : Table → List Term
given_terms table = lit Null ∷ (if table.is_counted then lit Null ∷ [] else []) ++ map (col 0) (range_with_len 0 (length (given_names table)))

-- in this version of the tables the text made of the table adds a row with what is passed
pub record AddsGiven {A : Type 0} (layout : Layout) (schema : Schema) (it : TableOf A) (table : Table) : Type 0 where
  pub place : ℕ
  pub is : command_of (understood schema (adding_text table)) ≡ Insert place (Values (given_terms table) (suc (length table.columns)))
  pub plain : IsPlain (understood schema (adding_text table))
  pub there : slice_get schema.tables place ≡ Some (record table { tree = it.number })
  pub numbered : IsTrue (has_table layout it.number)

pub adds_given : {A : Type 0} {layout : Layout} {it : TableOf A} {table : Table} → ((schema : Schema) → HasTables layout schema → AreApart layout schema) → ((schema : Schema) → HasTables layout schema → AddsGiven layout schema it table) → (values cells : Row) (added : A)
    → map (λ s. cast_row (record table { tree = it.number }) (drop 0 s)) (rows_of_values (record table { tree = it.number }) values (suc (length table.columns)) (given_terms table)) ≡ (Null ∷ cells) ∷ []
    → ((id : ℤ) → it.means (columns_of it (Int id ∷ cells)) ≡ Some added) → AddsBy layout it (adding_text table) values added
adds_given {layout = layout} {it = it} {table = table} apart given values cells added cast means old new r was inside h =
    let of = given old.now.schema was.schema in
    adds layout it cells added old new r (adds_row (apart old.now.schema was.schema) of.place (record table { tree = it.number }) (given_terms table) _ (adding_text table) values cells of.is of.plain of.there of.numbered cast old new r refl was inside h) means
