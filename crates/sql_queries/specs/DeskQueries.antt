-- The queries of the meetings and of what was noticed of them, over the tables of a desk.
use Rattle.std.specs.Prelude.{[], ◌∷◌, ◌≡◌, Some, refl}
use Rattle.std.proofs.Common.{◌∙◌}
use Rattle.desk_words.specs.declared.records.RegisterRow.{RegisterRow}
use Rattle.desk_words.specs.declared.records.Resolution.{Resolution}
use Rattle.desk_words.specs.declared.records.Session.{Session}
use Rattle.sql_lemmas.proofs.Frames.{wide, wide_one}
use Rattle.sql_rows.proofs.RowMeaningLemmas.{bound, option_ap}
use Rattle.sql_rows.specs.ColumnValues.{day_in, flag_in, moment_in, number_in, parsed_in, parsed_word_in, plain_text_of, some_moment_in}
use Rattle.sql_rows.specs.Meetings.{holding_in, meeting_in, resolution_in, session_in}
use Rattle.sql_rows.specs.declared.stored_records.InMeeting.{InMeeting}
use Rattle.sql_rows.specs.declared.stored_records.MeetingRow.{MeetingRow}
use Rattle.sql_rows.specs.declared.stored_records.Numbered.{Numbered}
use Rattle.sql_schema.specs.Contents.{meetings, register, resolutions, sessions}
use Rattle.sql_schema.specs.Tables.{meetings_table, register_table, resolutions_table, sessions_table}
use Rattle.sql_stored.specs.Keys.{FindsAs, FindsBy, HoldMeeting, HoldParty, both_tests, first_test}
use Rattle.sqlite.specs.Listing.{understood}
use Rattle.sqlite.specs.Order.{Row}
use Rattle.sqlite_tied.specs.Compute.{everything}
use Rattle.vocabulary.specs.Kinds.{company_of, holder_kind_of, meeting_kind_of, resolution_kind_of}
use Rattle.vocabulary.specs.Names.{meeting_of, party_of}

-- ---- the meetings

-- what a row names
names_itself : (cells : Row) (x : MeetingRow)
    → meeting_in cells ≡ Some x → parsed_in meeting_of cells 0 ≡ Some x.id
unfolding meeting_in
names_itself cells x h =
    let id = bound (parsed_in meeting_of cells 0) _ x h in
    let company = bound (parsed_word_in company_of cells 1) _ x id.2 in
    let kind = bound (parsed_word_in meeting_kind_of cells 2) _ x company.2 in
    let given = bound (day_in cells 3) _ x kind.2 in
    let appointed = bound (moment_in cells 4) _ x given.2 in
    let record_moment = bound (moment_in cells 5) _ x appointed.2 in
    let loaded = bound (flag_in cells 6) _ x record_moment.2 in
    let opened = bound (some_moment_in cells 7) _ x loaded.2 in
    id.1 ∙ option_ap (λ (y : MeetingRow). y.id) opened.2

pub meeting_named
    : FindsBy meetings meetings_table first_test HoldMeeting (0 ∷ [])
    (λ it. it.id)
unfolding understood everything
meeting_named = record {
  asks = wide_one (FindsAs meetings meetings_table first_test (0 ∷ []))
      (λ others apart indexes views. record { is = refl; plain = (refl, refl); unlisted = refl });
  alone = λ schema base. refl;
  holds = λ cells x h. names_itself cells x h;
}

-- ---- the resolutions

-- what a row names
pub names_resolution : (cells : Row) (x : InMeeting (Numbered Resolution))
    → resolution_in cells ≡ Some x → parsed_in meeting_of cells 0 ≡ Some x.meeting
unfolding resolution_in
names_resolution cells x h =
    let meeting = bound (parsed_in meeting_of cells 0) _ x h in
    let number = bound (number_in cells 1) _ x meeting.2 in
    let kind = bound (parsed_word_in resolution_kind_of cells 2) _ x number.2 in
    let text = bound (parsed_word_in plain_text_of cells 3) _ x kind.2 in
    meeting.1 ∙ option_ap (λ (y : InMeeting (Numbered Resolution)). y.meeting) text.2

pub resolutions_of_meeting
    : FindsBy resolutions resolutions_table first_test HoldMeeting (0 ∷ [])
    (λ it. it.meeting)
unfolding understood everything
resolutions_of_meeting = record {
  asks = wide_one (FindsAs resolutions resolutions_table first_test (0 ∷ []))
      (λ others apart indexes views. record { is = refl; plain = (refl, refl); unlisted = refl });
  alone = λ schema base. refl;
  holds = λ cells x h. names_resolution cells x h;
}

-- ---- the rows of the registers

-- what a row names
names_holding : (cells : Row) (x : InMeeting RegisterRow)
    → holding_in cells ≡ Some x
    → (parsed_in meeting_of cells 0 ≡ Some x.meeting)
    × (parsed_in party_of cells 1 ≡ Some x.item.member)
unfolding holding_in
names_holding cells x h =
    let meeting = bound (parsed_in meeting_of cells 0) _ x h in
    let member = bound (parsed_in party_of cells 1) _ x meeting.2 in
    let kind = bound (parsed_word_in holder_kind_of cells 2) _ x member.2 in
    let name = bound (parsed_word_in plain_text_of cells 3) _ x kind.2 in
    let shares = bound (number_in cells 4) _ x name.2 in
    let paid = bound (number_in cells 5) _ x shares.2 in (
      meeting.1 ∙ option_ap (λ (y : InMeeting RegisterRow). y.meeting) paid.2,
      member.1 ∙ option_ap (λ (y : InMeeting RegisterRow). y.item.member) paid.2,
    )

pub holding_of_member
    : FindsBy register register_table both_tests HoldParty (0 ∷ 1 ∷ [])
    (λ it. (it.meeting, it.item.member))
unfolding understood everything
holding_of_member = record {
  asks = wide_one (FindsAs register register_table both_tests (0 ∷ 1 ∷ []))
      (λ others apart indexes views. record { is = refl; plain = (refl, refl); unlisted = refl });
  alone = λ schema base. refl;
  holds = λ cells x h. names_holding cells x h;
}

pub register_of_meeting
    : FindsBy register register_table first_test HoldMeeting (0 ∷ [])
    (λ it. it.meeting)
unfolding understood everything
register_of_meeting = record {
  asks = wide_one (FindsAs register register_table first_test (0 ∷ []))
      (λ others apart indexes views. record { is = refl; plain = (refl, refl); unlisted = refl });
  alone = λ schema base. refl;
  holds = λ cells x h. (names_holding cells x h).0;
}

-- ---- the further sessions

-- what a row names
names_session : (cells : Row) (x : InMeeting (Numbered Session))
    → session_in cells ≡ Some x → parsed_in meeting_of cells 0 ≡ Some x.meeting
unfolding session_in
names_session cells x h =
    let meeting = bound (parsed_in meeting_of cells 0) _ x h in
    let number = bound (number_in cells 1) _ x meeting.2 in
    let appointed = bound (moment_in cells 2) _ x number.2 in
    let opened = bound (some_moment_in cells 3) _ x appointed.2 in
    meeting.1 ∙ option_ap (λ (y : InMeeting (Numbered Session)). y.meeting) opened.2

pub sessions_of_meeting
    : FindsBy sessions sessions_table first_test HoldMeeting (0 ∷ [])
    (λ it. it.meeting)
unfolding understood everything
sessions_of_meeting = record {
  asks = wide (FindsAs sessions sessions_table first_test (0 ∷ []))
      (λ others apart indexes views. record { is = refl; plain = (refl, refl); unlisted = refl });
  alone = λ schema base. refl;
  holds = λ cells x h. names_session cells x h;
}
