-- The rows of a table that name a meeting: what a statement shows of them, and what they are of tables that hold an
-- office.
use Rattle.std.proofs.Common.{◌≡◌, inl, inr, ℕ, Bool, false, if◌then◌else◌, List, [], ◌∷◌, map, filter, slice_index, Option, Some, None, Ok, Err, Result, IfOk, IsTrue, refl, sym, ap, subst, ◌∙◌}
use Rattle.std.specs.List.{list_any}
use Rattle.std.specs.Option.{option_map_or}
use Rattle.std.proofs.Math.Bool.{and-true}
use Rattle.sqlite.specs.declared.error.Error.{Error}
use Rattle.sqlite.specs.Held.{Held, state}
use Rattle.sqlite.specs.Order.{Row, column}
use Rattle.sqlite.specs.Program.{given_at}
use Rattle.sqlite.specs.Schema.{Schema}
use Rattle.sqlite.specs.State.{IsUnchanged}
use Rattle.sqlite.specs.Table.{Table}
use Rattle.sqlite.specs.Term.{Term}
use Rattle.sqlite.specs.Tree.{Trees}
use Rattle.sqlite_trees.specs.declared.store.Store as store
use Rattle.vocabulary.specs.Names.{meeting_of, same_name}
use Rattle.sql_rows.specs.ColumnValues.{parsed_in, parsed_of}
use Rattle.sql_rows.specs.declared.stored_records.InMeeting.{InMeeting}
use Rattle.sql_rows.specs.declared.stored_records.MeetingRow.{MeetingRow}
use Rattle.sql_schema.specs.SqlTexts.{given_names}
use Rattle.sql_schema.specs.Statements.{HasTables, IsRead, TableOf, columns_of, has_table, layout_two, records_in}
use Rattle.sql_lemmas.proofs.Deleting.{passes}
use Rattle.sql_lemmas.proofs.Listing.{ListsTable, shown_terms, shows_columns}
use Rattle.sql_lemmas.proofs.Queries.{shown_in}
use Rattle.sql_lemmas.proofs.Reading.{AsksAs, found_records, shows_passing, sought}
use Rattle.sql_lemmas.proofs.Tests.{whatever_decides}
use Rattle.sql_stored.specs.Keys.{IsAsked, NamesMeeting, first_test}
use Rattle.sql_model.specs.OfficeRecords.{of_meeting}
use Rattle.sql_model.proofs.ModelRecordLemmas.{name_turned}
use Rattle.sql_open.specs.MeetingReading.{is_of, meeting_in_row, own_in, rows_of_meeting}

-- ---- what a statement shows

-- a row passes the test of a meeting's name exactly where it names that meeting
passes_so : {A : Type 0} (it : TableOf A) (id : List ℕ) (params row : Row) → NamesMeeting id params → passes (first_test it.columns (0 ∷ [])) params row ≡ is_of it id row
passes_so it id params row given =
    subst (λ (p : Row). passes (first_test it.columns (0 ∷ [])) p row ≡ is_of it id row) (sym given.is)
    (and-true _ ∙ whatever_decides (column row (slice_index it.columns 0)) given.meeting id given.named)

filter-same : {X : Type 0} {p q : X → Bool} → ((x : X) → p x ≡ q x) → (xs : List X) → filter p xs ≡ filter q xs
filter-same e [] = refl
filter-same {X} {p} {q} e (x ∷ xs) = ap (λ b. if b then x ∷ filter p xs else filter p xs) (e x) ∙ ap (λ l. if q x then x ∷ l else l) (filter-same e xs)

-- the rows that are shown are those that pass a test, where the statement's tests are that test
pub shown_by : {S V A : Type 0} (g : store.Ghosts S) (a b : Held S) (items : V → List Row) (r : Result V Error) (it : TableOf A) (declared : Table) {sql : List ℕ} (tests : List Term) (test : Row → Bool) {Passes : Row → Type 0}
    → ((params row : Row) → Passes params → passes tests params row ≡ test row) → given_at [] it.number ≡ None → IsTrue (has_table layout_two it.number)
    → ((s : Schema) → HasTables layout_two s → AsksAs s sql (sought it.number tests (shown_terms it)) (given_names declared)) → IsAsked g a b items sql r Passes → IsRead g a b
    → IfOk r (λ v. (items v ≡ map (columns_of it) (filter test ((state g a).now.trees it.number))) × IsUnchanged (state g a) (state g b))
shown_by g a b items r it declared tests test same none numbered asks (inl refused) read = rw refused.is tt
shown_by {V = V} g a b items r it declared {sql} tests test same none numbered asks (inr asked) read =
    go r (shows_passing layout_two items it tests (shown_terms it) (given_names declared) sql asked.0 asks none numbered (λ row. shows_columns asked.0 row it.columns) (state g a) (state g b) r read.1 (asked.2.ok read.0))
  where
    go : (r : Result V Error) → IfOk r (λ v. (items v ≡ map (columns_of it) (filter (passes tests asked.0) ((state g a).now.trees it.number))) × IsUnchanged (state g a) (state g b))
        → IfOk r (λ v. (items v ≡ map (columns_of it) (filter test ((state g a).now.trees it.number))) × IsUnchanged (state g a) (state g b))
    go (Ok v) h = (h.0 ∙ ap (map (columns_of it)) (filter-same (λ row. same asked.0 row asked.1) ((state g a).now.trees it.number)), h.1)
    go (Err e) h = tt

-- so those of a meeting are those that name it
pub shown_own : {S V A : Type 0} (g : store.Ghosts S) (a b : Held S) (items : V → List Row) (r : Result V Error) {it : TableOf A} {declared : Table} {sql : List ℕ} (id : List ℕ) → ListsTable layout_two it declared
    → ((s : Schema) → HasTables layout_two s → AsksAs s sql (sought it.number (first_test it.columns (0 ∷ [])) (shown_terms it)) (given_names declared)) → IsAsked g a b items sql r (NamesMeeting id) → IsRead g a b
    → IfOk r (λ v. (items v ≡ rows_of_meeting it id (state g a).now.trees) × IsUnchanged (state g a) (state g b))
shown_own g a b items r {it} {declared} id lists = shown_by g a b items r it declared (first_test it.columns (0 ∷ [])) (is_of it id) (passes_so it id) lists.none lists.numbered

-- ---- of one table whose rows mean records that name their meetings

-- the row names one of the meetings
abbrev pub names_one : {A : Type 0} → TableOf A → List MeetingRow → Row → Bool
names_one it meetings row = list_any (λ (m : MeetingRow). is_of it m.id row) meetings

-- what is shown of a row names the meeting of what it means
abbrev pub Names : {A : Type 0} → TableOf (InMeeting A) → Type 0
Names {A} it = (cells : Row) (x : InMeeting A) → it.means cells ≡ Some x → parsed_in meeting_of cells 0 ≡ Some x.meeting

module _ {A : Type 0} (it : TableOf (InMeeting A)) (names : Names it) where
  names_row : (row : Row) (x : InMeeting A) → it.means (columns_of it row) ≡ Some x → meeting_in_row it row ≡ Some x.meeting
  unfolding parsed_in
  names_row row x h = shown_in (parsed_of meeting_of) refl row it.columns 0 x.meeting (names (columns_of it row) x h)

  pub of_row : (id : List ℕ) (row : Row) (x : InMeeting A) → it.means (columns_of it row) ≡ Some x → is_of it id row ≡ same_name x.meeting id
  of_row id row x h = ap (λ (o : Option (List ℕ)). option_map_or (λ name. same_name name id) o false) (names_row row x h)

  -- of a table that holds records those that name a meeting are its own
  pub own_is : (id : List ℕ) (trees : Trees) (was : List (InMeeting A)) → records_in it trees ≡ Some was → own_in it id trees ≡ Some (of_meeting id was)
  own_is id trees was held =
      let its = found_records it (is_of it id) (λ r. same_name r.meeting id) (of_row id) (trees it.number) was held in
      rw its refl

  -- so a row that names a meeting is a record of it
  pub says_so : (m : MeetingRow) (row : Row) (x : InMeeting A) → it.means (columns_of it row) ≡ Some x → is_of it m.id row ≡ same_name m.id x.meeting
  says_so m row x h = of_row m.id row x h ∙ name_turned x.meeting m.id
