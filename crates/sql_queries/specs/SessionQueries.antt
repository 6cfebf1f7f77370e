-- The queries of what is of a session, over the tables of a desk.
use Rattle.std.specs.Prelude.{[], ◌∷◌, ◌≡◌, Some, refl}
use Rattle.std.proofs.Common.{◌∙◌}
use Rattle.desk_words.specs.declared.records.DemandMark.{DemandMark}
use Rattle.desk_words.specs.declared.records.Poll.{Poll}
use Rattle.desk_words.specs.declared.records.PresenceMark.{PresenceMark}
use Rattle.sql_lemmas.proofs.Frames.{wide}
use Rattle.sql_rows.proofs.ColumnLemmas.{both_there, of_parts}
use Rattle.sql_rows.proofs.RowMeaningLemmas.{bound, option_ap}
use Rattle.sql_rows.specs.ColumnValues.{flag_in, moment_in, number_in, parsed_in, some_moment_in}
use Rattle.sql_rows.specs.Columns.{◌▸◌, moment_at, number_at, party_at}
use Rattle.sql_rows.specs.Marks.{declared_in, demand_mark_in, demand_mark_of, poll_in, presence_in, presence_of}
use Rattle.sql_rows.specs.declared.stored_records.InMeeting.{InMeeting}
use Rattle.sql_schema.specs.Contents.{demands, polls, presences}
use Rattle.sql_schema.specs.Tables.{demands_table, polls_table, presences_table}
use Rattle.sql_stored.specs.Keys.{FindsAs, FindsBy, HoldMeeting, HoldNumber, HoldParty, both_tests, first_test}
use Rattle.sqlite.specs.Listing.{understood}
use Rattle.sqlite.specs.Order.{Row}
use Rattle.sqlite_tied.specs.Compute.{everything}
use Rattle.vocabulary.specs.Names.{meeting_of, party_of}

-- ---- the presences

-- what a row names
abbrev NamesPresence : Row → InMeeting PresenceMark → Type 0
NamesPresence cells x =
    (parsed_in meeting_of cells 0 ≡ Some x.meeting)
    × (parsed_in party_of cells 2 ≡ Some x.item.party)

names_presence : (cells : Row) (x : InMeeting PresenceMark) → presence_in cells ≡ Some x
    → NamesPresence cells x
unfolding presence_in parsed_in
names_presence cells =
    of_parts (number_at ▸ party_at ▸ moment_at) presence_of (NamesPresence cells) cells
    (λ meeting parts is there.
    let later = both_there _ _ parts there in
    (is, (both_there _ _ parts.1 later.1).0))

pub presence_of_party
    : FindsBy presences presences_table both_tests HoldParty (0 ∷ 2 ∷ [])
    (λ it. (it.meeting, it.item.party))
unfolding understood everything
presence_of_party = record {
  asks = wide (FindsAs presences presences_table both_tests (0 ∷ 2 ∷ []))
      (λ others apart indexes views. record { is = refl; plain = (refl, refl); unlisted = refl });
  alone = λ schema base. refl;
  holds = λ cells x h. names_presence cells x h;
}

pub presences_of_meeting
    : FindsBy presences presences_table first_test HoldMeeting (0 ∷ [])
    (λ it. it.meeting)
unfolding understood everything
presences_of_meeting = record {
  asks = wide (FindsAs presences presences_table first_test (0 ∷ []))
      (λ others apart indexes views. record { is = refl; plain = (refl, refl); unlisted = refl });
  alone = λ schema base. refl;
  holds = λ cells x h. (names_presence cells x h).0;
}

-- ---- the demands of polls

-- what a row names
abbrev NamesDemand : Row → InMeeting DemandMark → Type 0
NamesDemand cells x =
    (parsed_in meeting_of cells 0 ≡ Some x.meeting)
    × (parsed_in party_of cells 3 ≡ Some x.item.party)

names_demand : (cells : Row) (x : InMeeting DemandMark) → demand_mark_in cells ≡ Some x
    → NamesDemand cells x
unfolding demand_mark_in parsed_in
names_demand cells =
    of_parts (number_at ▸ number_at ▸ party_at ▸ moment_at) demand_mark_of (NamesDemand cells) cells
    (λ meeting parts is there.
    let later = both_there _ _ parts.1 (both_there _ _ parts there).1 in
    (is, (both_there _ _ parts.1.1 later.1).0))

pub demand_made_by
    : FindsBy demands demands_table both_tests HoldParty (0 ∷ 3 ∷ [])
    (λ it. (it.meeting, it.item.party))
unfolding understood everything
demand_made_by = record {
  asks = wide (FindsAs demands demands_table both_tests (0 ∷ 3 ∷ []))
      (λ others apart indexes views. record { is = refl; plain = (refl, refl); unlisted = refl });
  alone = λ schema base. refl;
  holds = λ cells x h. names_demand cells x h;
}

pub demands_of_meeting
    : FindsBy demands demands_table first_test HoldMeeting (0 ∷ [])
    (λ it. it.meeting)
unfolding understood everything
demands_of_meeting = record {
  asks = wide (FindsAs demands demands_table first_test (0 ∷ []))
      (λ others apart indexes views. record { is = refl; plain = (refl, refl); unlisted = refl });
  alone = λ schema base. refl;
  holds = λ cells x h. (names_demand cells x h).0;
}

-- ---- the polls

-- what a row names
names_poll : (cells : Row) (x : InMeeting Poll)
    → poll_in cells ≡ Some x
    → (parsed_in meeting_of cells 0 ≡ Some x.meeting)
    × (number_in cells 2 ≡ Some x.item.resolution)
unfolding poll_in
names_poll cells x h =
    let meeting = bound (parsed_in meeting_of cells 0) _ x h in
    let session = bound (number_in cells 1) _ x meeting.2 in
    let resolution = bound (number_in cells 2) _ x session.2 in
    let ordered = bound (moment_in cells 3) _ x resolution.2 in
    let taken = bound (moment_in cells 4) _ x ordered.2 in
    let chair = bound (flag_in cells 5) _ x taken.2 in
    let started = bound (some_moment_in cells 6) _ x chair.2 in
    let closed = bound (some_moment_in cells 7) _ x started.2 in
    let declared = bound (declared_in cells 8) _ x closed.2 in (
      meeting.1 ∙ option_ap (λ (y : InMeeting Poll). y.meeting) declared.2,
      resolution.1 ∙ option_ap (λ (y : InMeeting Poll). y.item.resolution) declared.2,
    )

pub polls_of_meeting
    : FindsBy polls polls_table first_test HoldMeeting (0 ∷ [])
    (λ it. it.meeting)
unfolding understood everything
polls_of_meeting = record {
  asks = wide (FindsAs polls polls_table first_test (0 ∷ []))
      (λ others apart indexes views. record { is = refl; plain = (refl, refl); unlisted = refl });
  alone = λ schema base. refl;
  holds = λ cells x h. (names_poll cells x h).0;
}

pub poll_on_resolution
    : FindsBy polls polls_table both_tests HoldNumber (0 ∷ 2 ∷ [])
    (λ it. (it.meeting, it.item.resolution))
unfolding understood everything
poll_on_resolution = record {
  asks = wide (FindsAs polls polls_table both_tests (0 ∷ 2 ∷ []))
      (λ others apart indexes views. record { is = refl; plain = (refl, refl); unlisted = refl });
  alone = λ schema base. refl;
  holds = λ cells x h. names_poll cells x h;
}
