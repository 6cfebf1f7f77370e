-- What is found of the last resolution.
use Rattle.std.proofs.Common.{◌≡◌, ℕ, List, [], ◌∷◌, codes, Some, refl, ◌∙◌}
use Rattle.sqlite.specs.declared.types.Value.TheVariants.{Text}
use Rattle.sqlite.specs.Order.{Row}
use Rattle.sqlite.specs.Term.{Term, col}
use Rattle.sqlite_tied.specs.Compute.{everything}
use Rattle.sqlite.specs.Listing.{understood}
use Rattle.sql_rows.specs.declared.stored_records.InMeeting.{InMeeting}
use Rattle.sql_rows.specs.declared.stored_records.Numbered.{Numbered}
use Rattle.desk_words.specs.declared.records.Resolution.{Resolution}
use Rattle.sql_rows.specs.ColumnValues.{parsed_in, parsed_word_in, number_in, plain_text_of}
use Rattle.sql_rows.specs.Meetings.{resolution_in}
use Rattle.vocabulary.specs.Kinds.{resolution_kind_of}
use Rattle.sql_rows.proofs.RowMeaningLemmas.{bound, option_ap}
use Rattle.vocabulary.specs.Names.{meeting_of, same_name}
use Rattle.sql_schema.specs.Contents.{resolutions}
use Rattle.sql_schema.specs.Statements.{columns_of, HasTables, layout_two}
use Rattle.sql_lemmas.proofs.Reading.{AsksAs}
use Rattle.sql_queries.specs.DeskQueries.{names_resolution}
use Rattle.sql_queries.proofs.LastQueries.{IsLastQuery, sought_last}
use Rattle.sql_lemmas.proofs.Queries.{names_meeting, one_decides}
use Rattle.sql_lemmas.proofs.Frames.{wide_one}
use Rattle.sqlite.specs.Schema.{Schema}

abbrev shows : List Term
shows = col 1 1 ∷ col 1 2 ∷ col 1 3 ∷ col 1 4 ∷ []

abbrev names : List (List ℕ)
names = codes "meeting" ∷ codes "number" ∷ codes "kind" ∷ codes "body" ∷ []

abbrev last_of_meeting_text : List ℕ
last_of_meeting_text = codes "SELECT meeting, number, kind, body FROM resolutions WHERE meeting = ?1 ORDER BY number DESC LIMIT 1"

last_of_meeting_asks : (s : Schema) → HasTables layout_two s → AsksAs s last_of_meeting_text (sought_last 8 (names_meeting 1) shows 2) names
unfolding understood everything
last_of_meeting_asks =
    wide_one (λ s. AsksAs s last_of_meeting_text (sought_last 8 (names_meeting 1) shows 2) names) (λ others apart indexes views. record { is = refl; plain = (refl, refl); unlisted = refl })

-- the number of a row
number_in_row : (cells : Row) (x : InMeeting (Numbered Resolution)) → resolution_in cells ≡ Some x → number_in cells 1 ≡ Some x.item.number
unfolding resolution_in
number_in_row cells x h =
    let meeting = bound (parsed_in meeting_of cells 0) _ x h in
    let number = bound (number_in cells 1) _ x meeting.2 in
    let kind = bound (parsed_word_in resolution_kind_of cells 2) _ x number.2 in
    let text = bound (parsed_word_in plain_text_of cells 3) _ x kind.2 in
    number.1 ∙ option_ap (λ (y : InMeeting (Numbered Resolution)). y.item.number) text.2

-- the row of the last resolution of the meeting
pub last_of_meeting : (m meeting : List ℕ) → meeting_of meeting ≡ Some m → IsLastQuery resolutions last_of_meeting_text (Text meeting ∷ []) (λ x. same_name x.meeting m) (λ x. x.item.number)
unfolding parsed_in number_in
last_of_meeting m meeting meeting_is = record {
  tests = names_meeting 1;
  project = shows;
  at = 2;
  names = names;
  asks = last_of_meeting_asks;
  none = refl;
  columns = λ cells. refl;
  same = λ cells x h. one_decides cells 1 meeting m x.meeting (names_resolution (columns_of resolutions cells) x h) meeting_is;
  numbers = λ cells x h. number_in_row (columns_of resolutions cells) x h;
}
