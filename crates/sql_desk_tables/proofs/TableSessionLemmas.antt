-- What the statements on `sessions` do.
use Rattle.std.proofs.Common.{◌≡◌, ℕ, ℤ, Bool, true, false, ◌&&◌, List, [], ◌∷◌, codes, if◌then◌else◌, Some, Result, OnOk, IsTrue, refl, sym, ap₂, subst, ◌∙◌}
use Rattle.std.proofs.Math.Bool.{and-true}
use Rattle.sqlite.specs.Cast.{cast}
use Rattle.sqlite.specs.Collation.TheVariants.{Binary}
use Rattle.sqlite.specs.Command.TheVariants.{Update}
use Rattle.sqlite.specs.Edit.{id_in}
use Rattle.sqlite.specs.Kind.TheVariants.{Integer, Text as Texts}
use Rattle.sqlite.specs.Listing.{understood}
use Rattle.sqlite.specs.Order.{Row, column}
use Rattle.sqlite.specs.Schema.{Schema}
use Rattle.sqlite.specs.State.{State, ExecutesInside}
use Rattle.sqlite.specs.Term.{Term, col, op2}
use Rattle.sqlite.specs.Tree.{rowid}
use Rattle.sqlite.specs.declared.error.Error.{Error}
use Rattle.sqlite.specs.declared.types.Value.TheVariants.{Int, Text}
use Rattle.sqlite_sql.specs.declared.ops.BinaryOp.TheVariants.{Compare}
use Rattle.sqlite_sql.specs.declared.ops.CompareOp.TheVariants.{Eq}
use Rattle.sqlite_tied.specs.Compute.{everything}
use Rattle.sqlite_trees.specs.View.{is_int}
use Rattle.vocabulary.specs.Names.{meeting_of}
use Rattle.desk_words.specs.declared.records.Session.{Session}
use Rattle.sql_rows.proofs.RowMeaningLemmas.{bound, option_ap}
use Rattle.sql_rows.specs.ColumnValues.{moment_in, moment_of_number, natural_of, number_in, some_moment_in, parsed_in}
use Rattle.sql_rows.specs.Meetings.{session_in}
use Rattle.sql_rows.specs.declared.stored_records.InMeeting.{InMeeting}
use Rattle.sql_rows.specs.declared.stored_records.Numbered.{Numbered}
use Rattle.sql_schema.specs.Contents.{is_session_named, numbered_opened_at, session_opened_at, sessions}
use Rattle.sql_schema.specs.Statements.{IsDesk, Sets, columns_of, layout_two, HasTables}
use Rattle.sql_schema.specs.Tables.{sessions_table as table}
use Rattle.sql_lemmas.proofs.Deleting.{picked, passes}
use Rattle.sql_lemmas.proofs.Frames.{twos_apart, wide, RunsOn}
use Rattle.sql_lemmas.proofs.Seq.{is_its_id}
use Rattle.sql_lemmas.proofs.Tests.{names_decide, numbers_decide, preserved_spelled, preserved_integer}
use Rattle.sql_lemmas.proofs.Updating.{new_row, changes_rows, sets}
use Rattle.sql_lemmas.proofs.Values.{cast_int}

-- ---- a session that is opened

abbrev named : List Term
named = op2 (Compare Eq Binary) (col 1 1) (col 0 0) ∷ op2 (Compare Eq Binary) (col 1 2) (col 0 1) ∷ []

abbrev open_text : List ℕ
open_text = codes "UPDATE sessions SET opened = ?3 WHERE meeting = ?1 AND number = ?2"

abbrev open_terms : List Term
open_terms = col 1 0 ∷ col 1 1 ∷ col 1 2 ∷ col 1 3 ∷ col 0 2 ∷ []

open_runs : (s : Schema) → HasTables layout_two s → RunsOn s open_text (Update 14 (record { lets = []; body = picked 29 named open_terms })) 14 (record table { tree = 29 })
unfolding understood everything
open_runs = wide (λ s. RunsOn s open_text (Update 14 (record { lets = []; body = picked 29 named open_terms })) 14 (record table { tree = 29 })) (λ others apart indexes views. record { is = refl; plain = (refl, refl); there = refl })

-- what the columns of a row give, where it is that of a session
record IsSessionRow (cells : Row) (x : InMeeting (Numbered Session)) : Type 0 where
  meeting : parsed_in meeting_of cells 0 ≡ Some x.meeting
  number : number_in cells 1 ≡ Some x.item.number
  appointed : moment_in cells 2 ≡ Some x.item.item.appointed
  opened : some_moment_in cells 3 ≡ Some x.item.item.opened

parts : (cells : Row) (x : InMeeting (Numbered Session)) → session_in cells ≡ Some x → IsSessionRow cells x
unfolding session_in
parts cells x h =
    let meeting = bound (parsed_in meeting_of cells 0) _ x h in
    let number = bound (number_in cells 1) _ x meeting.2 in
    let appointed = bound (moment_in cells 2) _ x number.2 in
    let opened = bound (some_moment_in cells 3) _ x appointed.2 in
    let is = opened.2 in
    record {
      meeting = meeting.1 ∙ option_ap (λ (y : InMeeting (Numbered Session)). y.meeting) is;
      number = number.1 ∙ option_ap (λ (y : InMeeting (Numbered Session)). y.item.number) is;
      appointed = appointed.1 ∙ option_ap (λ (y : InMeeting (Numbered Session)). y.item.item.appointed) is;
      opened = opened.1 ∙ option_ap (λ (y : InMeeting (Numbered Session)). y.item.item.opened) is;
    }

whole_row : (cells : Row) (x : InMeeting (Numbered Session)) → IsSessionRow cells x → session_in cells ≡ Some x
unfolding session_in
whole_row cells x p = rw (p.meeting, p.number, p.appointed, p.opened) refl

chosen_so : (m meeting : List ℕ) (k : ℕ) (n : ℤ) (rest : Row) → meeting_of meeting ≡ Some m → natural_of n ≡ Some k → (cells : Row) (x : InMeeting (Numbered Session)) → sessions.means (columns_of sessions cells) ≡ Some x
    → passes named (Text meeting ∷ Int n ∷ rest) cells ≡ is_session_named m k x
unfolding parsed_in number_in
chosen_so m meeting k n rest is number cells x h =
    let p = parts (columns_of sessions cells) x h in
    ap₂ ◌&&◌ (names_decide (column cells 1) meeting x.meeting m p.meeting is) (and-true _ ∙ numbers_decide (column cells 2) n x.item.number k p.number number)

keeps_number : (cells : Row) → IsTrue (is_int (rowid cells)) → cast Integer (rowid cells) ≡ rowid cells
keeps_number cells keyed = subst (λ v. cast Integer v ≡ v) (sym (is_its_id cells keyed)) (cast_int (id_in (rowid cells)))

again : (cells : Row) (x : InMeeting (Numbered Session)) → sessions.means (columns_of sessions cells) ≡ Some x → (z : ℤ) (moment : ℕ) → moment_of_number z ≡ Some moment
    → session_in (cast Texts (column cells 1) ∷ cast Integer (column cells 2) ∷ cast Integer (column cells 3) ∷ cast Integer (Int z) ∷ []) ≡ Some (record x { item = numbered_opened_at moment x.item })
unfolding parsed_in moment_in number_in some_moment_in
again cells x h z moment at =
    let p = parts (columns_of sessions cells) x h in
    whole_row (cast Texts (column cells 1) ∷ cast Integer (column cells 2) ∷ cast Integer (column cells 3) ∷ cast Integer (Int z) ∷ []) (record x { item = numbered_opened_at moment x.item }) (record {
      meeting = preserved_spelled meeting_of (column cells 1) x.meeting p.meeting;
      number = preserved_integer natural_of (column cells 2) x.item.number p.number;
      appointed = preserved_integer moment_of_number (column cells 3) x.item.item.appointed p.appointed;
      opened = rw (cast_int z, at) refl;
    })

module _ (m meeting : List ℕ) (k : ℕ) (n z : ℤ) (moment : ℕ) (is : meeting_of meeting ≡ Some m) (number : natural_of n ≡ Some k) (at : moment_of_number z ≡ Some moment) where
  abbrev given : Row
  given = Text meeting ∷ Int n ∷ Int z ∷ []

  open_sets : (cells : Row) (x : InMeeting (Numbered Session)) → sessions.means (columns_of sessions cells) ≡ Some x
      → sessions.means (columns_of sessions (if passes named given cells then new_row (record table { tree = 29 }) open_terms given cells else cells)) ≡ Some (session_opened_at m k moment x)
  open_sets cells x h = go (passes named given cells) (is_session_named m k x) (chosen_so m meeting k n (Int z ∷ []) is number cells x h)
    where
      go : (a b : Bool) → a ≡ b → sessions.means (columns_of sessions (if a then new_row (record table { tree = 29 }) open_terms given cells else cells)) ≡ Some (if b then record x { item = numbered_opened_at moment x.item } else x)
      go true true e = again cells x h z moment at
      go true false e = absurd cc
      go false true e = absurd cc
      go false false e = h

  pub opens : (old new : State) (r : Result ℕ Error) → IsDesk old → IsTrue old.in_transaction → ExecutesInside 0 open_text given old new r → OnOk r (Sets sessions (session_opened_at m k moment) old new)
  opens old new r was inside h =
      sets sessions (λ cells. if passes named given cells then new_row (record table { tree = 29 }) open_terms given cells else cells) (session_opened_at m k moment) open_sets layout_two old new r
      (changes_rows (twos_apart old.now.schema was.schema) 14 (record table { tree = 29 }) named open_terms open_text given (open_runs old.now.schema was.schema).is (open_runs old.now.schema was.schema).plain (open_runs old.now.schema was.schema).there refl refl keeps_number old new r refl was inside h)
