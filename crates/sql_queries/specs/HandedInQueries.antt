-- The queries of what is handed in, over the tables of a desk.
use Rattle.std.specs.Prelude.{[], ◌∷◌, ◌≡◌, Some, refl}
use Rattle.std.proofs.Common.{◌∙◌}
use Rattle.desk_words.specs.declared.records.Appointment.{Appointment}
use Rattle.desk_words.specs.declared.records.Authority.{Authority}
use Rattle.desk_words.specs.declared.records.CastMark.{CastMark}
use Rattle.desk_words.specs.declared.records.Ending.{Ending}
use Rattle.sql_lemmas.proofs.Frames.{wide_one}
use Rattle.sql_rows.proofs.ColumnLemmas.{both_there, of_parts}
use Rattle.sql_rows.proofs.RowMeaningLemmas.{bound, option_ap}
use Rattle.sql_rows.specs.AppointmentRows.{appointment_in, authority_in, authority_of, ending_in, ending_of}
use Rattle.sql_rows.specs.ColumnValues.{moment_in, number_in, parsed_in}
use Rattle.sql_rows.specs.Columns.{◌▸◌, moment_at, number_at, party_at}
use Rattle.sql_rows.specs.InstructionLetters.{instructions_of}
use Rattle.sql_rows.specs.Marks.{cast_in, cast_kind_in}
use Rattle.sql_rows.specs.declared.stored_records.InMeeting.{InMeeting}
use Rattle.sql_schema.specs.Contents.{appointments, authorities, casts, endings}
use Rattle.sql_schema.specs.Tables.{appointments_table, authorities_table, casts_table, endings_table}
use Rattle.sql_stored.specs.Keys.{FindsAs, FindsBy, HoldMeeting, HoldNumber, HoldParties, HoldParty, both_tests, first_test, three_tests}
use Rattle.sqlite.specs.Listing.{understood}
use Rattle.sqlite.specs.Order.{Row}
use Rattle.sqlite_tied.specs.Compute.{everything}
use Rattle.vocabulary.specs.Names.{meeting_of, party_of}
use Rattle.vocabulary.specs.Places.{range_of}

-- ---- the appointments of proxies

-- what a row names
names_appointment : (cells : Row) (x : InMeeting Appointment)
    → appointment_in cells ≡ Some x
    → (parsed_in meeting_of cells 0 ≡ Some x.meeting)
    × (parsed_in party_of cells 1 ≡ Some x.item.member)
    × (parsed_in party_of cells 3 ≡ Some x.item.proxy)
unfolding appointment_in
names_appointment cells x h =
    let meeting = bound (parsed_in meeting_of cells 0) _ x h in
    let member = bound (parsed_in party_of cells 1) _ x meeting.2 in
    let number = bound (number_in cells 2) _ x member.2 in
    let proxy = bound (parsed_in party_of cells 3) _ x number.2 in
    let first = bound (number_in cells 4) _ x proxy.2 in
    let last = bound (number_in cells 5) _ x first.2 in
    let places = bound (range_of first.0 last.0) _ x last.2 in
    let instructions = bound (parsed_in instructions_of cells 6) _ x places.2 in
    let moment = bound (moment_in cells 7) _ x instructions.2 in (
      meeting.1 ∙ option_ap (λ (y : InMeeting Appointment). y.meeting) moment.2,
      member.1 ∙ option_ap (λ (y : InMeeting Appointment). y.item.member) moment.2,
      proxy.1 ∙ option_ap (λ (y : InMeeting Appointment). y.item.proxy) moment.2,
    )

pub appointment_given_by
    : FindsBy appointments appointments_table both_tests HoldParty (0 ∷ 1 ∷ [])
    (λ it. (it.meeting, it.item.member))
unfolding understood everything
appointment_given_by = record {
  asks = wide_one (FindsAs appointments appointments_table both_tests (0 ∷ 1 ∷ []))
      (λ others apart indexes views. record { is = refl; plain = (refl, refl); unlisted = refl });
  alone = λ schema base. refl;
  holds = λ cells x h. let of = names_appointment cells x h in (of.0, of.1);
}

pub appointment_naming
    : FindsBy appointments appointments_table both_tests HoldParty (0 ∷ 3 ∷ [])
    (λ it. (it.meeting, it.item.proxy))
unfolding understood everything
appointment_naming = record {
  asks = wide_one (FindsAs appointments appointments_table both_tests (0 ∷ 3 ∷ []))
      (λ others apart indexes views. record { is = refl; plain = (refl, refl); unlisted = refl });
  alone = λ schema base. refl;
  holds = λ cells x h. let of = names_appointment cells x h in (of.0, of.2);
}

pub appointments_of_meeting
    : FindsBy appointments appointments_table first_test HoldMeeting (0 ∷ [])
    (λ it. it.meeting)
unfolding understood everything
appointments_of_meeting = record {
  asks = wide_one (FindsAs appointments appointments_table first_test (0 ∷ []))
      (λ others apart indexes views. record { is = refl; plain = (refl, refl); unlisted = refl });
  alone = λ schema base. refl;
  holds = λ cells x h. (names_appointment cells x h).0;
}

-- ---- the endings of appointments

-- what a row names
abbrev NamesEnding : Row → InMeeting Ending → Type 0
NamesEnding cells x =
    (parsed_in meeting_of cells 0 ≡ Some x.meeting)
    × (parsed_in party_of cells 1 ≡ Some x.item.member)

names_ending : (cells : Row) (x : InMeeting Ending) → ending_in cells ≡ Some x → NamesEnding cells x
unfolding ending_in parsed_in
names_ending cells =
    of_parts (party_at ▸ number_at ▸ moment_at) ending_of (NamesEnding cells) cells
    (λ meeting parts is there. (is, (both_there _ _ parts there).0))

pub ending_made_by
    : FindsBy endings endings_table both_tests HoldParty (0 ∷ 1 ∷ [])
    (λ it. (it.meeting, it.item.member))
unfolding understood everything
ending_made_by = record {
  asks = wide_one (FindsAs endings endings_table both_tests (0 ∷ 1 ∷ []))
      (λ others apart indexes views. record { is = refl; plain = (refl, refl); unlisted = refl });
  alone = λ schema base. refl;
  holds = λ cells x h. names_ending cells x h;
}

pub endings_of_meeting
    : FindsBy endings endings_table first_test HoldMeeting (0 ∷ [])
    (λ it. it.meeting)
unfolding understood everything
endings_of_meeting = record {
  asks = wide_one (FindsAs endings endings_table first_test (0 ∷ []))
      (λ others apart indexes views. record { is = refl; plain = (refl, refl); unlisted = refl });
  alone = λ schema base. refl;
  holds = λ cells x h. (names_ending cells x h).0;
}

-- ---- the authorities of representatives

-- what a row names
abbrev NamesAuthority : Row → InMeeting Authority → Type 0
NamesAuthority cells x =
    (parsed_in meeting_of cells 0 ≡ Some x.meeting)
    × (parsed_in party_of cells 1 ≡ Some x.item.corporation)
    × (parsed_in party_of cells 2 ≡ Some x.item.person)

names_authority : (cells : Row) (x : InMeeting Authority) → authority_in cells ≡ Some x
    → NamesAuthority cells x
unfolding authority_in parsed_in
names_authority cells =
    of_parts (party_at ▸ party_at ▸ moment_at) authority_of (NamesAuthority cells) cells
    (λ meeting parts is there.
    let first = both_there _ _ parts there in
    (is, first.0, (both_there _ _ parts.1 first.1).0))

pub authority_given_by
    : FindsBy authorities authorities_table both_tests HoldParty (0 ∷ 1 ∷ [])
    (λ it. (it.meeting, it.item.corporation))
unfolding understood everything
authority_given_by = record {
  asks = wide_one (FindsAs authorities authorities_table both_tests (0 ∷ 1 ∷ []))
      (λ others apart indexes views. record { is = refl; plain = (refl, refl); unlisted = refl });
  alone = λ schema base. refl;
  holds = λ cells x h. let of = names_authority cells x h in (of.0, of.1);
}

pub authority_naming
    : FindsBy authorities authorities_table both_tests HoldParty (0 ∷ 2 ∷ [])
    (λ it. (it.meeting, it.item.person))
unfolding understood everything
authority_naming = record {
  asks = wide_one (FindsAs authorities authorities_table both_tests (0 ∷ 2 ∷ []))
      (λ others apart indexes views. record { is = refl; plain = (refl, refl); unlisted = refl });
  alone = λ schema base. refl;
  holds = λ cells x h. let of = names_authority cells x h in (of.0, of.2);
}

pub authority_naming_by
    : FindsBy authorities authorities_table three_tests HoldParties (0 ∷ 1 ∷ 2 ∷ [])
    (λ it. (it.meeting, it.item.corporation, it.item.person))
unfolding understood everything
authority_naming_by = record {
  asks = wide_one (FindsAs authorities authorities_table three_tests (0 ∷ 1 ∷ 2 ∷ []))
      (λ others apart indexes views. record { is = refl; plain = (refl, refl); unlisted = refl });
  alone = λ schema base. refl;
  holds = λ cells x h. names_authority cells x h;
}

pub authorities_of_meeting
    : FindsBy authorities authorities_table first_test HoldMeeting (0 ∷ [])
    (λ it. it.meeting)
unfolding understood everything
authorities_of_meeting = record {
  asks = wide_one (FindsAs authorities authorities_table first_test (0 ∷ []))
      (λ others apart indexes views. record { is = refl; plain = (refl, refl); unlisted = refl });
  alone = λ schema base. refl;
  holds = λ cells x h. (names_authority cells x h).0;
}

-- ---- the votes

-- what a row names
pub names_cast : (cells : Row) (x : InMeeting CastMark)
    → cast_in cells ≡ Some x
    → (parsed_in meeting_of cells 0 ≡ Some x.meeting)
    × (parsed_in party_of cells 2 ≡ Some x.item.voter)
    × (number_in cells 1 ≡ Some x.item.resolution)
unfolding cast_in
names_cast cells x h =
    let meeting = bound (parsed_in meeting_of cells 0) _ x h in
    let resolution = bound (number_in cells 1) _ x meeting.2 in
    let voter = bound (parsed_in party_of cells 2) _ x resolution.2 in
    let what = bound (cast_kind_in cells 3) _ x voter.2 in
    let moment = bound (moment_in cells 8) _ x what.2 in (
      meeting.1 ∙ option_ap (λ (y : InMeeting CastMark). y.meeting) moment.2,
      voter.1 ∙ option_ap (λ (y : InMeeting CastMark). y.item.voter) moment.2,
      resolution.1 ∙ option_ap (λ (y : InMeeting CastMark). y.item.resolution) moment.2,
    )

pub cast_by
    : FindsBy casts casts_table both_tests HoldParty (0 ∷ 2 ∷ [])
    (λ it. (it.meeting, it.item.voter))
unfolding understood everything
cast_by = record {
  asks = wide_one (FindsAs casts casts_table both_tests (0 ∷ 2 ∷ []))
      (λ others apart indexes views. record { is = refl; plain = (refl, refl); unlisted = refl });
  alone = λ schema base. refl;
  holds = λ cells x h. let of = names_cast cells x h in (of.0, of.1);
}

pub cast_on_resolution
    : FindsBy casts casts_table both_tests HoldNumber (0 ∷ 1 ∷ [])
    (λ it. (it.meeting, it.item.resolution))
unfolding understood everything
cast_on_resolution = record {
  asks = wide_one (FindsAs casts casts_table both_tests (0 ∷ 1 ∷ []))
      (λ others apart indexes views. record { is = refl; plain = (refl, refl); unlisted = refl });
  alone = λ schema base. refl;
  holds = λ cells x h. let of = names_cast cells x h in (of.0, of.2);
}

pub casts_of_meeting
    : FindsBy casts casts_table first_test HoldMeeting (0 ∷ [])
    (λ it. it.meeting)
unfolding understood everything
casts_of_meeting = record {
  asks = wide_one (FindsAs casts casts_table first_test (0 ∷ []))
      (λ others apart indexes views. record { is = refl; plain = (refl, refl); unlisted = refl });
  alone = λ schema base. refl;
  holds = λ cells x h. (names_cast cells x h).0;
}
