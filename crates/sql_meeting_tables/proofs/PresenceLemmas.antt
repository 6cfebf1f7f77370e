-- What the statements on `presences` do.
use Rattle.std.proofs.Common.{◌≡◌, ℕ, pos, [], ◌∷◌, drop, true, Some, Result, OnOk, IsTrue, refl, sym, subst}
use Rattle.sqlite.specs.declared.types.Value.TheVariants.{Null, Int}
use Rattle.sqlite.specs.Order.{Row, column}
use Rattle.sqlite_tied.specs.Compute.{everything}
use Rattle.sqlite.specs.Listing.{understood}
use Rattle.desk_words.specs.declared.records.PresenceMark.{PresenceMark}
use Rattle.sql_rows.specs.ColumnValues.{moment_in, moment_of_number, parsed_in}
use Rattle.sql_rows.specs.Marks.{presence_before_sessions_in}
use Rattle.vocabulary.specs.Names.{meeting_of, party_of}
use Rattle.sql_schema.specs.Tables.{presences_table as table, presences_before_sessions_table as first}
use Rattle.sql_schema.specs.SqlTexts.{copying_text}
use Rattle.sql_schema.specs.Contents.{presences, presences_before_sessions}
use Rattle.sql_schema.specs.Statements.{IsDesk, columns_of, layout_two, HasTables}
use Rattle.sql_lemmas.proofs.Values.{cast_int}
use Rattle.sql_lemmas.proofs.Frames.{wide}
use Rattle.sqlite.specs.Cast.{cast}
use Rattle.sqlite.specs.Collation.TheVariants.{Binary}
use Rattle.sqlite.specs.Edit.{id_in}
use Rattle.sqlite.specs.Kind.TheVariants.{Integer, Text as Texts}
use Rattle.sqlite.specs.State.{State, ExecutesInside}
use Rattle.sqlite.specs.Tree.{rowid}
use Rattle.sqlite.specs.declared.error.Error.{Error}
use Rattle.sqlite_trees.specs.View.{is_int}
use Rattle.sql_rows.proofs.RowMeaningLemmas.{bound}
use Rattle.sql_rows.specs.declared.stored_records.InMeeting.{InMeeting}
use Rattle.sql_schema.specs.CopiedRows.{Copies, in_first_session}
use Rattle.sql_meeting_tables.specs.Copying.{CopiesTyped}
use Rattle.sql_meeting_tables.proofs.TypedLemmas.{KeepsTyped, integers_stay, row_stays, texts_stay, typed_copied}
use Rattle.sqlite_schema.specs.Rules.{are_typed}
use Rattle.std.specs.List.{AllByRecursion}
use Rattle.sql_lemmas.proofs.Copying.{CopiesTable, table_copied}
use Rattle.sql_lemmas.proofs.Seq.{is_its_id}
use Rattle.sql_lemmas.proofs.Tests.{integer_stays, text_stays}
use Rattle.sqlite.specs.Schema.{Schema}

-- ---- the rows of version 1

copy_text : (s : Schema) → HasTables layout_two s → CopiesTable presences_before_sessions presences first table s
unfolding understood everything
copy_text = wide (CopiesTable presences_before_sessions presences first table) (λ others apart indexes views. record { place = 15; by = Binary ∷ Binary ∷ Binary ∷ Binary ∷ Binary ∷ Binary ∷ []; is = refl; plain = (refl, refl); there = refl; numbered = refl; from_numbered = refl; none = refl; bare = refl })

-- a row as it is copied
abbrev copied : Row → Row
copied r = cast Integer (rowid r) ∷ cast Integer Null ∷ cast Texts (column r 2) ∷ cast Integer (Int (pos 1)) ∷ cast Texts (column r 3) ∷ cast Integer (column r 4) ∷ []

keeps_number : (r : Row) → IsTrue (is_int (rowid r)) → rowid (copied r) ≡ rowid r
keeps_number r keyed = subst (λ v. cast Integer v ≡ v) (sym (is_its_id r keyed)) (cast_int (id_in (rowid r)))

columns_copied : (r : Row) (x : InMeeting PresenceMark) → presences_before_sessions.means (columns_of presences_before_sessions r) ≡ Some x → columns_of presences (copied r) ≡ in_first_session (columns_of presences_before_sessions r)
unfolding presence_before_sessions_in parsed_in moment_in
columns_copied r x h =
    let cells = columns_of presences_before_sessions r in
    let meeting = bound (parsed_in meeting_of cells 0) _ x h in
    let party = bound (parsed_in party_of cells 1) _ x meeting.2 in
    let moment = bound (moment_in cells 2) _ x party.2 in
    rw (text_stays meeting_of (column r 2) meeting.0 meeting.1, cast_int (pos 1), text_stays party_of (column r 3) party.0 party.1, integer_stays moment_of_number (column r 4) moment.0 moment.1) refl

pub copies : (old new : State) (r : Result ℕ Error) → IsDesk old → IsTrue old.in_transaction → ExecutesInside 0 (copying_text first table) [] old new r → OnOk r (Copies presences_before_sessions presences old new)
copies = table_copied copy_text copied (λ r. refl) keeps_number columns_copied

-- whatever they mean, rows that obey their declaration are copied
kinds : AllByRecursion KeepsTyped first.columns
kinds = (record { strict = refl; stays = integers_stay }, (record { strict = refl; stays = texts_stay }, (record { strict = refl; stays = texts_stay }, (record { strict = refl; stays = integers_stay }, tt))))

row_copied : (r : Row) → are_typed first.key 0 first.columns (drop 1 r) ≡ true → columns_of presences (copied r) ≡ in_first_session (columns_of presences_before_sessions r)
row_copied r h = let k = row_stays first kinds r h in rw (k.1.0 refl, cast_int (pos 1), k.1.1.0 refl, k.1.1.1.0 refl) refl

pub copies_typed : (old new : State) (r : Result ℕ Error) → IsDesk old → IsTrue old.in_transaction → ExecutesInside 0 (copying_text first table) [] old new r → OnOk r (CopiesTyped first presences_before_sessions presences old new)
copies_typed = typed_copied copy_text copied (λ r. refl) keeps_number row_copied
