-- What the statements on `desk` do.
use Rattle.std.proofs.Common.{◌≡◌, ℕ, ◌==◌, pos, List, [], ◌∷◌, codes, false, if◌then◌else◌, Some, Ok, Err, Result, OnOk, IfOk, IfErr, IsTrue, ◌⊎◌, refl, sym, subst}
use Rattle.sqlite.specs.declared.types.Value.TheVariants.{Null, Int}
use Rattle.sqlite.specs.Held.{Held, state}
use Rattle.sqlite.specs.Order.{Row, column}
use Rattle.sqlite.specs.Cast.{cast}
use Rattle.sqlite.specs.Edit.{id_in}
use Rattle.sqlite.specs.Kind.TheVariants.{Integer}
use Rattle.sqlite.specs.Tree.{rowid}
use Rattle.sqlite_trees.specs.View.{is_int}
use Rattle.sqlite.specs.Term.{Term, col, lit}
use Rattle.sqlite.specs.Source.TheVariants.{Values}
use Rattle.sqlite.specs.Command.TheVariants.{Insert, Select, Update}
use Rattle.sqlite_tied.specs.Compute.{everything}
use Rattle.sqlite.specs.declared.error.Error.{Error}
use Rattle.sqlite.specs.Listing.{understood, reads_listing}
use Rattle.sqlite.specs.State.{State, ExecutesInside, Shown, IsUnchanged, FailsToQuery, IsTooLate, KeepsCommit}
use Rattle.sqlite.proofs.Callers.{IsPlain, command_of, reads_as}
use Rattle.sqlite.specs.Command.{Command}
use Rattle.sqlite.specs.Effect.{Database, Reads as Shows}
use Rattle.sqlite.specs.Table.{Table}
use Rattle.sqlite_resolve.specs.declared.compiled.Compiled.{Compiled}
use Rattle.sqlite_resolve.specs.declared.error.CompileError.{CompileError}
use Rattle.sqlite_schema.specs.declared.schema.Index.{Index}
use Rattle.sqlite_schema.specs.declared.schema.View.{View as Stored}
use Rattle.sqlite_trees.specs.declared.store.Store as store
use Rattle.sql_desk_tables.specs.Versions.{IsAnsweredBy, AreNoted, NotesVersion, ShowsVersions, beside_desk, version_text}
use Rattle.sql_rows.specs.ColumnValues.{natural_of, number_in}
use Rattle.sql_rows.specs.declared.stored_records.Version.{Version}
use Rattle.sql_rows.proofs.RowMeaningLemmas.{bound}
use Rattle.vocabulary.specs.OptionSteps.{guard}
use Rattle.sql_rows.specs.DeskRows.{version_in}
use Rattle.sql_lemmas.proofs.GivenNumbers.{none_below}
use Rattle.sql_schema.specs.Tables.{no_schema, desk_table as table}
use Rattle.sql_schema.specs.SqlTexts.{given_names, inserting_text, making_text}
use Rattle.sql_schema.specs.Contents.{desk}
use Rattle.sql_schema.specs.Statements.{IsDesk, AddsFirst, Sets, columns_of, table_rows, HasTables, layout_one, layout_two}
use Rattle.sql_lemmas.proofs.Adding.{adds_numbered, means_more}
use Rattle.sql_lemmas.proofs.Commits.{query_keeps}
use Rattle.sql_lemmas.proofs.Deleting.{passes, picked}
use Rattle.sql_lemmas.proofs.Seq.{is_its_id}
use Rattle.sql_lemmas.proofs.Tests.{preserved_integer}
use Rattle.sql_lemmas.proofs.Updating.{changes_rows, new_row, sets}
use Rattle.sql_lemmas.proofs.Listing.{shown_terms}
use Rattle.sql_lemmas.proofs.Making.{MakesTable}
use Rattle.sql_lemmas.proofs.Reading.{in_order, shown_same, whole}
use Rattle.sql_lemmas.proofs.Values.{cast_null, cast_int}
use Rattle.sql_lemmas.proofs.Frames.{twos_apart, wide, wide_one, RunsOn}
use Rattle.sqlite.specs.Schema.{Schema}

pub makes : MakesTable no_schema (making_text (codes "one INTEGER NOT NULL PRIMARY KEY" ∷ []) [] table) table
unfolding understood everything Rattle.sqlite_schema.specs.Names.same_name
makes = record { is = refl; alone = refl; plain = (refl, refl); defined = refl; full = refl }

abbrev add_text : List ℕ
add_text = inserting_text (codes "1" ∷ codes "2" ∷ []) table

abbrev terms : List Term
terms = lit (Int (pos 1)) ∷ lit Null ∷ lit (Int (pos 2)) ∷ []

add_runs : (s : Schema) → HasTables layout_two s → RunsOn s add_text (Insert 0 (Values terms 3)) 0 (record table { tree = 0 })
unfolding understood everything
add_runs = wide_one (λ s. RunsOn s add_text (Insert 0 (Values terms 3)) 0 (record table { tree = 0 })) (λ others apart indexes views. record { is = refl; plain = (refl, refl); there = refl })

means : version_in (Int (pos 1) ∷ Int (pos 2) ∷ []) ≡ Some (record { number = 2 })
unfolding version_in number_in
means = refl

pub adds_version : (old new : State) (r : Result ℕ Error) → IsDesk old → IsTrue old.in_transaction → ExecutesInside 0 add_text [] old new r → OnOk r (AddsFirst desk (record { number = 2 }) old new)
adds_version old new (Err e) was inside h = tt
adds_version old new (Ok count) was inside h = λ records known none.
    let cells = Null ∷ Int (pos 2) ∷ [] in
    let row = adds_numbered (twos_apart old.now.schema was.schema) 0 (record table { tree = 0 }) terms 3 add_text [] (pos 1) cells (add_runs old.now.schema was.schema).is (add_runs old.now.schema was.schema).plain (add_runs old.now.schema was.schema).there refl (rw (cast_null, cast_int (pos 1), cast_int (pos 2)) refl) old new (Ok count) refl was inside (none_below desk (old.now.trees 0) records (pos 1) known none) h in
    means_more desk cells (record { number = 2 }) old new row.0 (rw row.1 means)

-- ---- the version is raised

abbrev raise_text : List ℕ
raise_text = codes "UPDATE desk SET version = 2"

abbrev raise_terms : List Term
raise_terms = col 1 0 ∷ lit Null ∷ lit (Int (pos 2)) ∷ []

raise_runs : (s : Schema) → HasTables layout_two s → RunsOn s raise_text (Update 0 (record { lets = []; body = picked 0 [] raise_terms })) 0 (record table { tree = 0 })
unfolding understood everything
raise_runs = wide_one (λ s. RunsOn s raise_text (Update 0 (record { lets = []; body = picked 0 [] raise_terms })) 0 (record table { tree = 0 })) (λ others apart indexes views. record { is = refl; plain = (refl, refl); there = refl })

keeps_number : (cells : Row) → IsTrue (is_int (rowid cells)) → cast Integer (rowid cells) ≡ rowid cells
keeps_number cells keyed = subst (λ v. cast Integer v ≡ v) (sym (is_its_id cells keyed)) (cast_int (id_in (rowid cells)))

raise_sets : (cells : Row) (x : Version) → desk.means (columns_of desk cells) ≡ Some x → desk.means (columns_of desk (if passes [] [] cells then new_row (record table { tree = 0 }) raise_terms [] cells else cells)) ≡ Some (record { number = 2 })
unfolding version_in number_in
raise_sets cells x h =
    let one = bound (number_in (columns_of desk cells) 0) _ x h in
    let first = bound (guard (one.0 == 1)) _ x one.2 in
    rw (preserved_integer natural_of (column cells 0) one.0 one.1, cast_int (pos 2), first.1) refl

pub raises : (old new : State) (r : Result ℕ Error) → IsDesk old → IsTrue old.in_transaction → ExecutesInside 0 raise_text [] old new r → OnOk r (Sets desk (λ _. record { number = 2 }) old new)
raises old new r was inside h =
    sets desk (λ cells. if passes [] [] cells then new_row (record table { tree = 0 }) raise_terms [] cells else cells) (λ _. record { number = 2 }) raise_sets layout_two old new r
    (changes_rows (twos_apart old.now.schema was.schema) 0 (record table { tree = 0 }) [] raise_terms raise_text [] (raise_runs old.now.schema was.schema).is (raise_runs old.now.schema was.schema).plain (raise_runs old.now.schema was.schema).there refl refl keeps_number old new r refl was inside h)

-- ---- the version of tables of any schema

-- what answers a statement that is understood is what its command reads
command_reads : (r : Result Compiled CompileError) (command : Command) (db : Database) (rows : List Row) → command_of r ≡ command → IsAnsweredBy r db rows → Shows command db [] rows
command_reads (Ok c) command db rows is h = subst (λ k. Shows k db [] rows) is h
command_reads (Err e) command db rows is h = absurd h

answered : (r : Result Compiled CompileError) (db : Database) (rows : List Row) → IsPlain r → Shows (command_of r) db [] rows → IsAnsweredBy r db rows
answered (Ok c) db rows plain h = h
answered (Err e) db rows plain h = absurd plain

module _ (others : List Table) (indexes : List Index) (views : List Stored) where
  text_is : (command_of (understood (beside_desk others indexes views) version_text) ≡ Select (record { lets = []; body = whole 0 (shown_terms desk) }) (given_names table)) × (reads_listing (beside_desk others indexes views) version_text ≡ false)
  unfolding understood everything
  text_is = (refl, refl)

  text_plain : IsPlain (understood (beside_desk others indexes views) version_text)
  unfolding understood everything
  text_plain = (refl, refl)

  pub notes : NotesVersion (beside_desk others indexes views)
  notes = record {
    table = refl;
    plain = text_plain;
    listed = text_is.1;
    whole = λ db rising rows h. in_order 0 (shown_terms desk) db.trees refl rows rising.0 ((command_reads (understood (beside_desk others indexes views) version_text) _ db rows text_is.0 h).answer Null);
  }

-- the tables of version 1 note it
pub desk_notes : (s : Schema) → HasTables layout_one s → NotesVersion s
desk_notes = wide NotesVersion (λ others apart indexes views. notes _ indexes views)

pub reads : {V : Type 0} (items : V → List Row) (old new : State) (r : Result V Error) → AreNoted old → IfOk r (λ v. Shown version_text [] old new (items v))
    → IfOk r (λ v. (items v ≡ table_rows desk old.now.trees) × IsUnchanged old new)
reads items old new (Err e) was h = tt
reads items old new (Ok v) was h =
    let plain = was.noted.plain in
    let it = understood old.now.schema version_text in
    let got = reads_as version_text [] old new old.now.schema refl (command_of it) refl plain was.noted.listed (items v) h in
    (was.noted.whole old.now was.rising (items v) (answered it old.now (items v) plain got), shown_same version_text [] old new old.now.schema refl plain (items v) h)

pub reads_keeps : {V : Type 0} (items : V → List Row) (old new : State) (r : Result V Error) → NotesVersion old.now.schema → IfOk r (λ v. Shown version_text [] old new (items v))
    → IfErr r (λ e. FailsToQuery version_text [] old new e ⊎ IsTooLate version_text [] old new e) → KeepsCommit old new
reads_keeps items old new r noted = query_keeps items version_text [] old new old.now.schema noted.plain r refl

-- what is answered is what the text shows, whatever the tables are
pub shows : {S V : Type 0} (g : store.Ghosts S) (old new : Held S) (items : V → List Row) (r : Result V Error) → IfOk r (λ v. Shown version_text [] (state g old) (state g new) (items v)) → IfOk r (λ v. ShowsVersions g (state g old).now (items v))
shows g old new items (Err e) h = tt
shows g old new items (Ok v) h = (old, new, refl, h)
