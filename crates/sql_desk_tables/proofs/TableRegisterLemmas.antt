-- What the statements on `register` do.
use Rattle.std.proofs.Common.{◌≡◌, ℕ, List, [], ◌∷◌, codes, Some, Result, OnOk, IsTrue, refl, ◌∙◌}
use Rattle.sqlite.specs.declared.types.Value.TheVariants.{Text}
use Rattle.sqlite.specs.Order.{Row, column}
use Rattle.sqlite.specs.Term.{col, op2}
use Rattle.sqlite.specs.Collation.TheVariants.{Binary}
use Rattle.sqlite_sql.specs.declared.ops.BinaryOp.TheVariants.{Compare}
use Rattle.sqlite_sql.specs.declared.ops.CompareOp.TheVariants.{Eq}
use Rattle.sqlite.specs.Command.TheVariants.{Delete}
use Rattle.sqlite_tied.specs.Compute.{everything}
use Rattle.sqlite.specs.declared.error.Error.{Error}
use Rattle.sqlite.specs.Listing.{understood}
use Rattle.sqlite.specs.State.{State, ExecutesInside}
use Rattle.sql_rows.specs.declared.stored_records.InMeeting.{InMeeting}
use Rattle.desk_words.specs.declared.records.RegisterRow.{RegisterRow}
use Rattle.sql_rows.specs.ColumnValues.{number_in, parsed_in, plain_text_of, parsed_word_in}
use Rattle.sql_rows.specs.Meetings.{holding_in}
use Rattle.vocabulary.specs.Kinds.{holder_kind_of}
use Rattle.vocabulary.specs.Names.{meeting_of, party_of, same_name}
use Rattle.sql_schema.specs.Tables.{register_table as table}
use Rattle.sql_schema.specs.Contents.{register}
use Rattle.sql_schema.specs.Statements.{IsDesk, TakesOut, columns_of, layout_two, HasTables}
use Rattle.sql_lemmas.proofs.Deleting.{chosen, passes}
use Rattle.sql_lemmas.proofs.Emptying.{takes_out, leaves_rows}
use Rattle.sql_rows.proofs.RowMeaningLemmas.{bound, option_ap}
use Rattle.sql_lemmas.proofs.Tests.{names_decide}
use Rattle.std.proofs.Math.Bool.{and-true}
use Rattle.sql_lemmas.proofs.Frames.{twos_apart, wide_one, RunsOn}
use Rattle.sqlite.specs.Schema.{Schema}

abbrev empty_text : List ℕ
empty_text = codes "DELETE FROM register WHERE meeting = ?1"

empty_runs : (s : Schema) → HasTables layout_two s → RunsOn s empty_text (Delete 6 (record { lets = []; body = chosen 10 (op2 (Compare Eq Binary) (col 1 1) (col 0 0) ∷ []) })) 6 (record table { tree = 10 })
unfolding understood everything
empty_runs = wide_one (λ s. RunsOn s empty_text (Delete 6 (record { lets = []; body = chosen 10 (op2 (Compare Eq Binary) (col 1 1) (col 0 0) ∷ []) })) 6 (record table { tree = 10 })) (λ others apart indexes views. record { is = refl; plain = (refl, refl); there = refl })

-- the meeting of a holding
meeting_is : (cells : Row) (x : InMeeting RegisterRow) → holding_in cells ≡ Some x → parsed_in meeting_of cells 0 ≡ Some x.meeting
unfolding holding_in
meeting_is cells x h =
    let meeting = bound (parsed_in meeting_of cells 0) _ x h in
    let member = bound (parsed_in party_of cells 1) _ x meeting.2 in
    let kind = bound (parsed_word_in holder_kind_of cells 2) _ x member.2 in
    let name = bound (parsed_word_in plain_text_of cells 3) _ x kind.2 in
    let shares = bound (number_in cells 4) _ x name.2 in
    let paid = bound (number_in cells 5) _ x shares.2 in
    meeting.1 ∙ option_ap (λ (y : InMeeting RegisterRow). y.meeting) paid.2

chosen_so : (m meeting : List ℕ) → meeting_of meeting ≡ Some m → (cells : Row) (x : InMeeting RegisterRow) → register.means (columns_of register cells) ≡ Some x
    → passes (op2 (Compare Eq Binary) (col 1 1) (col 0 0) ∷ []) (Text meeting ∷ []) cells ≡ same_name x.meeting m
unfolding parsed_in
chosen_so m meeting is cells x h = and-true _ ∙ names_decide (column cells 1) meeting x.meeting m (meeting_is (columns_of register cells) x h) is

pub empties_meeting : (m meeting : List ℕ) → meeting_of meeting ≡ Some m → (old new : State) (r : Result ℕ Error) → IsDesk old → IsTrue old.in_transaction
    → ExecutesInside 0 empty_text (Text meeting ∷ []) old new r → OnOk r (TakesOut register (λ x. same_name x.meeting m) old new)
empties_meeting m meeting is old new r was inside h =
    takes_out register (passes (op2 (Compare Eq Binary) (col 1 1) (col 0 0) ∷ []) (Text meeting ∷ [])) (λ x. same_name x.meeting m) (chosen_so m meeting is) layout_two old new r
    (leaves_rows (twos_apart old.now.schema was.schema) 6 (record table { tree = 10 }) (op2 (Compare Eq Binary) (col 1 1) (col 0 0) ∷ []) empty_text (Text meeting ∷ []) (empty_runs old.now.schema was.schema).is (empty_runs old.now.schema was.schema).plain (empty_runs old.now.schema was.schema).there refl refl old new r refl was inside h)
