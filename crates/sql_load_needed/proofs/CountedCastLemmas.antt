-- How many votes of a party were counted on a resolution.
use Rattle.std.proofs.Common.{◌≡◌, ◌⊎◌, inl, inr, ◌≤◌, ◌+◌, ℕ, Bool, true, false, ◌&&◌, cond, List, [], ◌∷◌, filter, length, nat_le, Option, Some, None, IsTrue, refl, sym, ap, ◌∙◌, arith}
use Rattle.std.specs.Prelude.{◌==◌, count_by}
use Rattle.std.specs.Cmp.{first_so, second_so}
use Rattle.std.specs.List.{list_all, list_any}
use Rattle.seq.proofs.Differing.{count_filter}
use Rattle.std.proofs.Math.Nat.{min-eq_left}
use Rattle.std.proofs.lemmas.Bool.{eqb-true}
use Rattle.std.proofs.lemmas.Bool.Decides.{nat_tests}
use Rattle.std.proofs.lemmas.List.{length-map}
use Rattle.std.proofs.lemmas.List.Sums.{length-filter, sum_by-cons}
use Rattle.vocabulary.specs.Names.{same_name}
use Rattle.desk_words.specs.Finding.{meeting_named}
use Rattle.desk_words.specs.Office.{is_cast_on, is_office, same_ballot}
use Rattle.desk_words.specs.declared.limits.TheConstants.{MOST_CASTS}
use Rattle.desk_words.specs.declared.office.MeetingLists.{MeetingLists}
use Rattle.desk_words.specs.declared.office.OfficeLists.{OfficeLists}
use Rattle.desk_words.specs.declared.records.CastMark.{CastMark}
use Rattle.desk_words.proofs.OfficeFacts.{found_facts}
use Rattle.desk_words.proofs.WordRowLemmas.{same_name-true}
use Rattle.party_views.specs.OwnCasts.{cast_count}
use Rattle.party_views.specs.Views.{meeting_at}
use Rattle.party_views.proofs.OwnLemmas.{filter-swap}
use Rattle.proxy_rules.specs.Parties.{is_cast_by}
use Rattle.row_source.specs.LookUps.{casts_by, casts_in}
use Rattle.sql_rows.specs.declared.stored_records.InMeeting.{InMeeting}
use Rattle.sql_model.specs.OfficeRecords.{FlatLists}
use Rattle.sql_model.proofs.ListChanges.{list_of}
use Rattle.sql_model.proofs.ModelOfficeLemmas.{AreOf}
use Rattle.sql_model.proofs.Names.ListName.{Casts}
use Rattle.sql_lemmas.specs.CountedRows.{most}
use Rattle.sql_load.specs.MeetingRecords.{without_meeting}
use Rattle.sql_load.proofs.FoundRecordLemmas.{received_so}
use Rattle.sql_load_needed.proofs.LoadedPartyRowLemmas.{both_pass}

-- a small count is all
all_counted : (count : ℕ) → count ≤ MOST_CASTS → most count ≡ count
all_counted count few = min-eq_left (omega (arith, few))

module _ (party : List ℕ) (resolution : ℕ) where
  -- a vote of the party on the resolution
  is_own : CastMark → Bool
  is_own c = (c.resolution == resolution) && same_name c.voter party

  -- the ballot of such a vote has these votes
  own_ballot : (c : CastMark) (all : List CastMark) → is_own c ≡ true → count_by (λ d. same_ballot d c) all ≡ count_by is_own all
  unfolding is_own
  own_ballot c all own =
      let number : c.resolution ≡ resolution = eqb-true c.resolution resolution (first_so (c.resolution == resolution) (same_name c.voter party) own) in
      let voter : c.voter ≡ party = same_name-true c.voter party (second_so (c.resolution == resolution) (same_name c.voter party) own) in
      λ i. count_by (λ (d : CastMark). (d.resolution == number i) && same_name d.voter (voter i)) all

  -- there are none, or no more than a ballot may have
  few_among : (casts all : List CastMark) → list_all (λ c. nat_le (count_by (λ d. same_ballot d c) all) MOST_CASTS) casts ≡ true → (count_by is_own casts ≡ 0) ⊎ (nat_le (count_by is_own all) MOST_CASTS ≡ true)
  few_among [] all fits = inl refl
  few_among (c ∷ casts) all fits =
      let here = first_so (nat_le (count_by (λ d. same_ballot d c) all) MOST_CASTS) (list_all (λ c. nat_le (count_by (λ d. same_ballot d c) all) MOST_CASTS) casts) fits in
      let later = second_so (nat_le (count_by (λ d. same_ballot d c) all) MOST_CASTS) (list_all (λ c. nat_le (count_by (λ d. same_ballot d c) all) MOST_CASTS) casts) fits in
      (elim (is_own c) as (λ b. is_own c ≡ b → (count_by is_own (c ∷ casts) ≡ 0) ⊎ (nat_le (count_by is_own all) MOST_CASTS ≡ true)) [
        | true ↦ λ own. inr (ap (λ n. nat_le n MOST_CASTS) (sym (own_ballot c all own)) ∙ here)
        | false ↦ λ other. (elim (few_among casts all later) [
          | inl none ↦ let step = sum_by-cons (λ d. cond (is_own d) 1 0) c casts ∙ ap (λ b. cond b 1 0 + count_by is_own casts) other in inl (omega (arith, step, none))
          | inr few ↦ inr few
        ])
      ]) refl

  few : (casts : List CastMark) → list_all (λ c. nat_le (count_by (λ d. same_ballot d c) casts) MOST_CASTS) casts ≡ true → count_by is_own casts ≤ MOST_CASTS
  few casts fits =
      elim (few_among casts casts fits) [
        | inl none ↦ omega (arith, none)
        | inr at_most ↦ grind (arith, nat_tests, at_most)
      ]

  module _ (id : List ℕ) (office : OfficeLists) (preserved : IsTrue (is_office office)) where
    -- so it is of the party's votes in a meeting of an office
    few_by : cast_count (casts_by (meeting_at office id) party) resolution ≤ MOST_CASTS
    unfolding few is_own
    few_by = go (meeting_named office.meetings id) refl
      where
        go : (found : Option MeetingLists) → meeting_named office.meetings id ≡ found → cast_count (casts_by found party) resolution ≤ MOST_CASTS
        go None is = omega arith
        go (Some m) is =
            let casts = (found_facts office id m preserved is).casts in
            let fits = second_so (list_all (λ c. list_any (is_cast_on c) m.polls) m.casts) (list_all (λ c. nat_le (count_by (λ d. same_ballot d c) m.casts) MOST_CASTS) m.casts) casts in
            let same = count_filter (λ (c : CastMark). c.resolution == resolution) (is_cast_by party) m.casts in
            let at_most = few m.casts fits in
            omega (arith, same, at_most)

    -- as many as the tables have are counted
    pub count_is : (flat : FlatLists) → AreOf flat office
        → most (length (filter (λ (it : InMeeting CastMark). same_name it.meeting id && (same_name it.item.voter party && it.item.resolution == resolution)) flat.casts)) ≡ cast_count (casts_by (meeting_at office id) party) resolution
    count_is flat of =
        let by = is_cast_by party in
        let on = λ (c : CastMark). c.resolution == resolution in
        let casts = casts_in (meeting_at office id) in
        let found = filter (λ (it : InMeeting CastMark). same_name it.meeting id && (same_name it.item.voter party && it.item.resolution == resolution)) flat.casts in
        let same : length found ≡ cast_count (casts_by (meeting_at office id) party) resolution =
        sym (length-map found without_meeting)
        ∙ ap length (received_so (list_of Casts) (λ l. refl) id (λ (c : CastMark). by c && on c) flat office of ∙ both_pass by on casts ∙ filter-swap by on casts)
        ∙ length-filter on (filter by casts) in
        let at_most = few_by in
        ap most same ∙ all_counted (cast_count (casts_by (meeting_at office id) party) resolution) at_most
