-- What the statements on `meetings` do.
use Rattle.std.proofs.Common.{◌≡◌, ℕ, ℤ, pos, Bool, List, [], ◌∷◌, codes, true, false, Some, Ok, Result, OnOk, IsTrue, refl, sym, ap, subst, ◌∙◌, if◌then◌else◌}
use Rattle.sqlite.specs.declared.types.Value.{Value}
use Rattle.sqlite.specs.declared.types.Value.TheVariants.{Null, Int, Text}
use Rattle.sqlite.specs.Order.{Row, column}
use Rattle.sqlite.specs.Term.{Term, lit, col, op2}
use Rattle.sqlite.specs.Collation.TheVariants.{Binary}
use Rattle.sqlite_sql.specs.declared.ops.BinaryOp.TheVariants.{Compare}
use Rattle.sqlite_sql.specs.declared.ops.CompareOp.TheVariants.{Eq}
use Rattle.sqlite.specs.Command.TheVariants.{Update, CreateTable}
use Rattle.sqlite.specs.Change.{created}
use Rattle.sqlite.specs.Compile.{table_defined_by}
use Rattle.sqlite.specs.Does.{lacks_sequence, sequence_text}
use Rattle.sqlite_tied.specs.Compute.{everything}
use Rattle.sqlite.specs.declared.error.Error.{Error}
use Rattle.sqlite.specs.Listing.{understood}
use Rattle.sqlite.specs.State.{State, ExecutesInside}
use Rattle.sqlite.proofs.Callers.{IsPlain, command_of, statement_of}
use Rattle.sql_rows.specs.ColumnValues.{day_in, unix_day, flag_in, flag_of, integer_of, moment_in, moment_of_number, natural_of, number_in, natural_value, some_moment_in, some_moment_of, parsed_in, parsed_of, parsed_word_in, parsed_word_of}
use Rattle.sql_rows.specs.Meetings.{meeting_in}
use Rattle.vocabulary.specs.Kinds.{company_of, meeting_kind_of}
use Rattle.vocabulary.specs.Names.{meeting_of, same_name}
use Rattle.sql_schema.specs.Tables.{up_to_closed, up_to_meetings, meetings_table as table, sequence}
use Rattle.sql_schema.specs.SqlTexts.{making_text, seq_column}
use Rattle.sql_schema.specs.Contents.{meetings, loaded_at, first_opened_at}
use Rattle.sql_schema.specs.Statements.{IsDesk, Sets, columns_of, ExtendsSchema, layout_two, HasTables}
use Rattle.sql_lemmas.proofs.Deleting.{picked, passes}
use Rattle.sql_lemmas.proofs.Making.{made_counted}
use Rattle.sqlite.specs.Kind.TheVariants.{Integer, Text as Texts}
use Rattle.sqlite.specs.Cast.{cast}
use Rattle.sqlite.specs.Tree.{rowid}
use Rattle.sqlite.specs.Edit.{id_in}
use Rattle.sqlite_trees.specs.View.{is_int}
use Rattle.sql_rows.specs.declared.stored_records.MeetingRow.{MeetingRow}
use Rattle.vocabulary.specs.OptionSteps.{◌>>=◌}
use Rattle.sql_lemmas.proofs.Seq.{is_its_id}
use Rattle.sql_rows.proofs.RowMeaningLemmas.{bound, option_ap}
use Rattle.sql_lemmas.proofs.Tests.{names_decide, preserved_spelled, preserved_worded, preserved_integer, preserved_some_moment}
use Rattle.std.proofs.Math.Bool.{and-true}
use Rattle.sql_lemmas.proofs.Updating.{new_row, changes_rows, sets}
use Rattle.sql_lemmas.proofs.Values.{cast_int}
use Rattle.sql_lemmas.proofs.Frames.{twos_apart, wide_one, RunsOn}
use Rattle.sqlite.specs.Schema.{Schema}

-- how the columns that have a key are declared
abbrev first_columns : List (List ℕ)
first_columns = seq_column ∷ codes "meeting TEXT NOT NULL UNIQUE" ∷ []

abbrev make_text : List ℕ
make_text = making_text first_columns [] table

make_is : (command_of (understood up_to_closed make_text) ≡ CreateTable) × (statement_of make_text (understood up_to_closed make_text) ≡ make_text) × (table_defined_by make_text ≡ Ok table)
unfolding understood everything
make_is = (refl, refl, refl)

make_plain : IsPlain (understood up_to_closed make_text)
unfolding understood everything
make_plain = (refl, refl)

make_lacks : (lacks_sequence (created up_to_closed table) ≡ true) × (table_defined_by sequence_text ≡ Ok sequence)
unfolding Rattle.sqlite_schema.specs.Names.same_name everything
make_lacks = (refl, refl)

pub makes : (old new : State) (r : Result ℕ Error) → old.now.schema ≡ up_to_closed → IsTrue old.in_transaction → ExecutesInside 0 make_text [] old new r
    → OnOk r (ExtendsSchema up_to_closed up_to_meetings old new × IsTrue new.in_transaction)
makes old new r = made_counted old new up_to_closed make_text table sequence r make_is.0 make_is.1 make_plain make_is.2 make_lacks.0 make_lacks.1

abbrev load_text : List ℕ
load_text = codes "UPDATE meetings SET loaded = 1 WHERE meeting = ?1"

abbrev load_terms : List Term
load_terms = col 1 0 ∷ lit Null ∷ col 1 2 ∷ col 1 3 ∷ col 1 4 ∷ col 1 5 ∷ col 1 6 ∷ col 1 7 ∷ lit (Int (pos 1)) ∷ col 1 9 ∷ []

load_runs : (s : Schema) → HasTables layout_two s → RunsOn s load_text (Update 3 (record { lets = []; body = picked 5 (op2 (Compare Eq Binary) (col 1 2) (col 0 0) ∷ []) load_terms })) 3 (record table { tree = 5 })
unfolding understood everything
load_runs = wide_one (λ s. RunsOn s load_text (Update 3 (record { lets = []; body = picked 5 (op2 (Compare Eq Binary) (col 1 2) (col 0 0) ∷ []) load_terms })) 3 (record table { tree = 5 })) (λ others apart indexes views. record { is = refl; plain = (refl, refl); there = refl })

abbrev open_text : List ℕ
open_text = codes "UPDATE meetings SET opened = ?2 WHERE meeting = ?1"

abbrev open_terms : List Term
open_terms = col 1 0 ∷ lit Null ∷ col 1 2 ∷ col 1 3 ∷ col 1 4 ∷ col 1 5 ∷ col 1 6 ∷ col 1 7 ∷ col 1 8 ∷ col 0 1 ∷ []

abbrev named : List Term
named = op2 (Compare Eq Binary) (col 1 2) (col 0 0) ∷ []

open_runs : (s : Schema) → HasTables layout_two s → RunsOn s open_text (Update 3 (record { lets = []; body = picked 5 named open_terms })) 3 (record table { tree = 5 })
unfolding understood everything
open_runs = wide_one (λ s. RunsOn s open_text (Update 3 (record { lets = []; body = picked 5 named open_terms })) 3 (record table { tree = 5 })) (λ others apart indexes views. record { is = refl; plain = (refl, refl); there = refl })

-- what the columns of a row give, where it is that of a meeting
record IsMeetingRow (cells : Row) (x : MeetingRow) : Type 0 where
  id : parsed_in meeting_of cells 0 ≡ Some x.id
  company : parsed_word_in company_of cells 1 ≡ Some x.company
  kind : parsed_word_in meeting_kind_of cells 2 ≡ Some x.kind
  given : day_in cells 3 ≡ Some x.given
  appointed : moment_in cells 4 ≡ Some x.appointed
  recorded : moment_in cells 5 ≡ Some x.record_moment
  loaded : flag_in cells 6 ≡ Some x.loaded
  opened : some_moment_in cells 7 ≡ Some x.opened

parts : (cells : Row) (x : MeetingRow) → meeting_in cells ≡ Some x → IsMeetingRow cells x
unfolding meeting_in
parts cells x h =
    let id = bound (parsed_in meeting_of cells 0) _ x h in
    let company = bound (parsed_word_in company_of cells 1) _ x id.2 in
    let kind = bound (parsed_word_in meeting_kind_of cells 2) _ x company.2 in
    let given = bound (day_in cells 3) _ x kind.2 in
    let appointed = bound (moment_in cells 4) _ x given.2 in
    let recorded = bound (moment_in cells 5) _ x appointed.2 in
    let loaded = bound (flag_in cells 6) _ x recorded.2 in
    let opened = bound (some_moment_in cells 7) _ x loaded.2 in
    let is = opened.2 in
    record {
      id = id.1 ∙ option_ap (λ (y : MeetingRow). y.id) is;
      company = company.1 ∙ option_ap (λ (y : MeetingRow). y.company) is;
      kind = kind.1 ∙ option_ap (λ (y : MeetingRow). y.kind) is;
      given = given.1 ∙ option_ap (λ (y : MeetingRow). y.given) is;
      appointed = appointed.1 ∙ option_ap (λ (y : MeetingRow). y.appointed) is;
      recorded = recorded.1 ∙ option_ap (λ (y : MeetingRow). y.record_moment) is;
      loaded = loaded.1 ∙ option_ap (λ (y : MeetingRow). y.loaded) is;
      opened = opened.1 ∙ option_ap (λ (y : MeetingRow). y.opened) is;
    }

whole_row : (cells : Row) (x : MeetingRow) → IsMeetingRow cells x → meeting_in cells ≡ Some x
unfolding meeting_in
whole_row cells x p = rw (p.id, p.company, p.kind, p.given, p.appointed, p.recorded, p.loaded, p.opened) refl

-- the columns of a row that is written again, but for the last two
record IsPreservedRow (cells : Row) (x : MeetingRow) : Type 0 where
  id : parsed_of meeting_of (cast Texts (column cells 2)) ≡ Some x.id
  company : parsed_word_of company_of (cast Texts (column cells 3)) ≡ Some x.company
  kind : parsed_word_of meeting_kind_of (cast Texts (column cells 4)) ≡ Some x.kind
  given : (integer_of (cast Integer (column cells 5)) >>= unix_day) ≡ Some x.given
  appointed : (integer_of (cast Integer (column cells 6)) >>= moment_of_number) ≡ Some x.appointed
  recorded : (integer_of (cast Integer (column cells 7)) >>= moment_of_number) ≡ Some x.record_moment
  loaded : (natural_value (cast Integer (column cells 8)) >>= flag_of) ≡ Some x.loaded
  opened : some_moment_of (cast Integer (column cells 9)) ≡ Some x.opened

preserved_row : (cells : Row) (x : MeetingRow) → meetings.means (columns_of meetings cells) ≡ Some x → IsPreservedRow cells x
unfolding parsed_in parsed_word_in day_in moment_in flag_in number_in some_moment_in
preserved_row cells x h =
    let p = parts (columns_of meetings cells) x h in
    let flag_part = bound (natural_value (column cells 8)) flag_of x.loaded p.loaded in
    record {
      id = preserved_spelled meeting_of (column cells 2) x.id p.id;
      company = preserved_worded company_of (column cells 3) x.company p.company;
      kind = preserved_worded meeting_kind_of (column cells 4) x.kind p.kind;
      given = preserved_integer unix_day (column cells 5) x.given p.given;
      appointed = preserved_integer moment_of_number (column cells 6) x.appointed p.appointed;
      recorded = preserved_integer moment_of_number (column cells 7) x.record_moment p.recorded;
      loaded = rw (preserved_integer natural_of (column cells 8) flag_part.0 flag_part.1) flag_part.2;
      opened = preserved_some_moment (column cells 9) x.opened p.opened;
    }

chosen_so : (m meeting : List ℕ) (rest : Row) → meeting_of meeting ≡ Some m → (cells : Row) (x : MeetingRow) → meetings.means (columns_of meetings cells) ≡ Some x
    → passes named (Text meeting ∷ rest) cells ≡ same_name x.id m
unfolding parsed_in
chosen_so m meeting rest is cells x h = and-true _ ∙ names_decide (column cells 2) meeting x.id m (parts (columns_of meetings cells) x h).id is

keeps_number : (new : List Term) (params cells : Row) → IsTrue (is_int (rowid cells)) → cast Integer (rowid cells) ≡ rowid cells
keeps_number new params cells keyed = subst (λ v. cast Integer v ≡ v) (sym (is_its_id cells keyed)) (cast_int (id_in (rowid cells)))

again : (cells : Row) (x : MeetingRow) → IsPreservedRow cells x → (loaded : Value) (opened : Value) (set : MeetingRow) → set ≡ record x { loaded = set.loaded; opened = set.opened }
    → (natural_value loaded >>= flag_of) ≡ Some set.loaded → some_moment_of opened ≡ Some set.opened
    → meeting_in (cast Texts (column cells 2) ∷ cast Texts (column cells 3) ∷ cast Texts (column cells 4) ∷ cast Integer (column cells 5) ∷ cast Integer (column cells 6) ∷ cast Integer (column cells 7) ∷ loaded ∷ opened ∷ []) ≡ Some set
unfolding parsed_in parsed_word_in day_in moment_in flag_in number_in some_moment_in
again cells x k loaded opened set same a b =
    whole_row (cast Texts (column cells 2) ∷ cast Texts (column cells 3) ∷ cast Texts (column cells 4) ∷ cast Integer (column cells 5) ∷ cast Integer (column cells 6) ∷ cast Integer (column cells 7) ∷ loaded ∷ opened ∷ []) set (record {
      id = k.id ∙ ap (λ (y : MeetingRow). Some y.id) (sym same);
      company = k.company ∙ ap (λ (y : MeetingRow). Some y.company) (sym same);
      kind = k.kind ∙ ap (λ (y : MeetingRow). Some y.kind) (sym same);
      given = k.given ∙ ap (λ (y : MeetingRow). Some y.given) (sym same);
      appointed = k.appointed ∙ ap (λ (y : MeetingRow). Some y.appointed) (sym same);
      recorded = k.recorded ∙ ap (λ (y : MeetingRow). Some y.record_moment) (sym same);
      loaded = a;
      opened = b;
    })

one_is_yes : (natural_value (cast Integer (Int (pos 1))) >>= flag_of) ≡ Some true
one_is_yes = rw (cast_int (pos 1)) refl

load_sets : (m meeting : List ℕ) → meeting_of meeting ≡ Some m → (cells : Row) (x : MeetingRow) → meetings.means (columns_of meetings cells) ≡ Some x
    → meetings.means (columns_of meetings (if passes named (Text meeting ∷ []) cells then new_row (record table { tree = 5 }) load_terms (Text meeting ∷ []) cells else cells)) ≡ Some (loaded_at m x)
load_sets m meeting is cells x h = go (passes named (Text meeting ∷ []) cells) (same_name x.id m) (chosen_so m meeting [] is cells x h)
  where
    go : (a b : Bool) → a ≡ b → meetings.means (columns_of meetings (if a then new_row (record table { tree = 5 }) load_terms (Text meeting ∷ []) cells else cells)) ≡ Some (if b then record x { loaded = true } else x)
    go true true e = let k = preserved_row cells x h in again cells x k (cast Integer (Int (pos 1))) (cast Integer (column cells 9)) (record x { loaded = true }) refl one_is_yes k.opened
    go true false e = absurd cc
    go false true e = absurd cc
    go false false e = h

open_sets : (m meeting : List ℕ) (n : ℤ) (moment : ℕ) → meeting_of meeting ≡ Some m → moment_of_number n ≡ Some moment → (cells : Row) (x : MeetingRow) → meetings.means (columns_of meetings cells) ≡ Some x
    → meetings.means (columns_of meetings (if passes named (Text meeting ∷ Int n ∷ []) cells then new_row (record table { tree = 5 }) open_terms (Text meeting ∷ Int n ∷ []) cells else cells)) ≡ Some (first_opened_at m moment x)
open_sets m meeting n moment is at cells x h = go (passes named (Text meeting ∷ Int n ∷ []) cells) (same_name x.id m) (chosen_so m meeting (Int n ∷ []) is cells x h)
  where
    set_now : some_moment_of (cast Integer (Int n)) ≡ Some (Some moment)
    set_now = rw (cast_int n, at) refl

    go : (a b : Bool) → a ≡ b → meetings.means (columns_of meetings (if a then new_row (record table { tree = 5 }) open_terms (Text meeting ∷ Int n ∷ []) cells else cells)) ≡ Some (if b then record x { opened = Some moment } else x)
    go true true e = let k = preserved_row cells x h in again cells x k (cast Integer (column cells 8)) (cast Integer (Int n)) (record x { opened = Some moment }) refl k.loaded set_now
    go true false e = absurd cc
    go false true e = absurd cc
    go false false e = h

pub loads : (m meeting : List ℕ) → meeting_of meeting ≡ Some m → (old new : State) (r : Result ℕ Error) → IsDesk old → IsTrue old.in_transaction → ExecutesInside 0 load_text (Text meeting ∷ []) old new r
    → OnOk r (Sets meetings (loaded_at m) old new)
loads m meeting is old new r was inside h =
    sets meetings (λ cells. if passes named (Text meeting ∷ []) cells then new_row (record table { tree = 5 }) load_terms (Text meeting ∷ []) cells else cells) (loaded_at m) (load_sets m meeting is) layout_two old new r
    (changes_rows (twos_apart old.now.schema was.schema) 3 (record table { tree = 5 }) named load_terms load_text (Text meeting ∷ []) (load_runs old.now.schema was.schema).is (load_runs old.now.schema was.schema).plain (load_runs old.now.schema was.schema).there refl refl (keeps_number load_terms (Text meeting ∷ [])) old new r refl was inside h)

pub opens : (m meeting : List ℕ) (n : ℤ) (moment : ℕ) → meeting_of meeting ≡ Some m → moment_of_number n ≡ Some moment → (old new : State) (r : Result ℕ Error) → IsDesk old → IsTrue old.in_transaction
    → ExecutesInside 0 open_text (Text meeting ∷ Int n ∷ []) old new r → OnOk r (Sets meetings (first_opened_at m moment) old new)
opens m meeting n moment is at old new r was inside h =
    sets meetings (λ cells. if passes named (Text meeting ∷ Int n ∷ []) cells then new_row (record table { tree = 5 }) open_terms (Text meeting ∷ Int n ∷ []) cells else cells) (first_opened_at m moment) (open_sets m meeting n moment is at) layout_two old new r
    (changes_rows (twos_apart old.now.schema was.schema) 3 (record table { tree = 5 }) named open_terms open_text (Text meeting ∷ Int n ∷ []) (open_runs old.now.schema was.schema).is (open_runs old.now.schema was.schema).plain (open_runs old.now.schema was.schema).there refl refl (keeps_number open_terms (Text meeting ∷ Int n ∷ [])) old new r refl was inside h)
