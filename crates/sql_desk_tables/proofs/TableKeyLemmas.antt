-- What the statements on `keys` do.
use Rattle.std.proofs.Common.{◌≡◌, ℕ, List, [], ◌∷◌, codes, Some, Result, IfOk, IfErr, ◌⊎◌, refl, ◌∙◌, filter}
use Rattle.sqlite.specs.declared.types.Value.TheVariants.{Text}
use Rattle.sqlite.specs.Order.{Row, column}
use Rattle.sqlite.specs.Term.{Term, col, op2}
use Rattle.sqlite.specs.Collation.TheVariants.{Binary}
use Rattle.sqlite_sql.specs.declared.ops.BinaryOp.TheVariants.{Compare}
use Rattle.sqlite_sql.specs.declared.ops.CompareOp.TheVariants.{Eq}
use Rattle.sqlite_tied.specs.Compute.{everything}
use Rattle.sqlite.specs.declared.error.Error.{Error}
use Rattle.sqlite.specs.Listing.{understood}
use Rattle.sqlite.specs.State.{State, Shown, IsUnchanged, FailsToQuery, IsTooLate, KeepsCommit}
use Rattle.desk_words.specs.declared.caller.KeyRow.{KeyRow}
use Rattle.sql_rows.specs.ColumnValues.{parsed_in}
use Rattle.sql_rows.specs.DeskRows.{key_row_in}
use Rattle.vocabulary.specs.Names.{key_of, same_name}
use Rattle.desk_words.specs.Callers.{caller_of}
use Rattle.sql_schema.specs.Tables.{keys_table as table}
use Rattle.sql_schema.specs.SqlTexts.{finding_text, given_names}
use Rattle.sql_schema.specs.Contents.{keys}
use Rattle.sql_schema.specs.Statements.{IsDesk, columns_of, records_in, layout_two, HasTables}
use Rattle.sql_lemmas.proofs.Commits.{query_keeps}
use Rattle.sql_lemmas.proofs.Deleting.{passes}
use Rattle.sql_lemmas.proofs.Listing.{shown_terms}
use Rattle.sql_lemmas.proofs.Reading.{AsksAs, sought, finds}
use Rattle.sql_rows.specs.Meanings.{all_meanings}
use Rattle.sql_rows.proofs.RowMeaningLemmas.{bound, option_ap}
use Rattle.sql_lemmas.proofs.Tests.{keys_decide}
use Rattle.std.proofs.Math.Bool.{and-true}
use Rattle.sql_lemmas.proofs.Frames.{wide_one}
use Rattle.sqlite.specs.Schema.{Schema}

abbrev find_text : List ℕ
find_text = finding_text table (codes "secret = ?1")

abbrev with_secret : List Term
with_secret = op2 (Compare Eq Binary) (col 1 2) (col 0 0) ∷ []

find_asks : (s : Schema) → HasTables layout_two s → AsksAs s find_text (sought 1 with_secret (shown_terms keys)) (given_names table)
unfolding understood everything
find_asks = wide_one (λ s. AsksAs s find_text (sought 1 with_secret (shown_terms keys)) (given_names table)) (λ others apart indexes views. record { is = refl; plain = (refl, refl); unlisted = refl })

secret_is : (cells : Row) (x : KeyRow) → key_row_in cells ≡ Some x → parsed_in key_of cells 1 ≡ Some x.secret
unfolding key_row_in
secret_is cells x h =
    let caller = bound (parsed_in caller_of cells 0) _ x h in
    let secret = bound (parsed_in key_of cells 1) _ x caller.2 in
    secret.1 ∙ option_ap (λ (y : KeyRow). y.secret) secret.2

chosen_so : (s secret : List ℕ) → key_of secret ≡ Some s → (cells : Row) (x : KeyRow) → keys.means (columns_of keys cells) ≡ Some x → passes with_secret (Text secret ∷ []) cells ≡ same_name x.secret s
unfolding parsed_in
chosen_so s secret is cells x h = and-true _ ∙ keys_decide (column cells 2) secret x.secret s (secret_is (columns_of keys cells) x h) is

pub finds_secret : {V : Type 0} (items : V → List Row) (s secret : List ℕ) → key_of secret ≡ Some s → (old new : State) (r : Result V Error) → IsDesk old → IfOk r (λ v. Shown find_text (Text secret ∷ []) old new (items v))
    → IfOk r (λ v. ((was : List KeyRow) → records_in keys old.now.trees ≡ Some was → all_meanings keys.means (items v) ≡ Some (filter (λ x. same_name x.secret s) was)) × IsUnchanged old new)
finds_secret items s secret is = finds layout_two items keys with_secret (shown_terms keys) (given_names table) find_text (Text secret ∷ []) (λ x. same_name x.secret s) find_asks refl refl (λ cells. refl) (chosen_so s secret is)

pub find_keeps : {V : Type 0} (items : V → List Row) (secret : List ℕ) (old new : State) (r : Result V Error) → IsDesk old → IfOk r (λ v. Shown find_text (Text secret ∷ []) old new (items v))
    → IfErr r (λ e. FailsToQuery find_text (Text secret ∷ []) old new e ⊎ IsTooLate find_text (Text secret ∷ []) old new e) → KeepsCommit old new
find_keeps items secret old new r was = query_keeps items find_text (Text secret ∷ []) old new old.now.schema (find_asks old.now.schema was.schema).plain r refl
