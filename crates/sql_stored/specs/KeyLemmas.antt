-- A row passes the tests of a key exactly where what it shows holds the same key.
use Rattle.std.specs.Prelude.{◌≡◌, ℕ, ◌==◌, ◌&&◌, List, Option, Some, map, slice_index, refl}
use Rattle.std.proofs.Common.{subst, sym}
use Rattle.sqlite.specs.Order.{Row, column}
use Rattle.sql_lemmas.proofs.Deleting.{passes}
use Rattle.sql_lemmas.proofs.Queries.{both_decide, number_decides, numbered_decide, one_decides, shown_in, three_decide}
use Rattle.sql_rows.specs.ColumnValues.{natural_value, number_in, parsed_in, parsed_of}
use Rattle.sql_stored.specs.Keys.{HoldMeeting, HoldNumber, HoldNumbered, HoldParties, HoldParty, HoldsName, HoldsNumber, NamesMeeting, NamesNumber, NamesNumbered, NamesParties, NamesParty, both_tests, first_test, three_tests}
use Rattle.vocabulary.specs.Names.{meeting_of, party_of, same_name}

module _ (columns places : List ℕ) (row : Row) where
  -- the column of the row that is shown at one of the places
  abbrev place : ℕ → ℕ
  place at = slice_index columns (slice_index places at)

  name_at : (reading : List ℕ → Option (List ℕ)) (at : ℕ) (name : List ℕ)
      → HoldsName reading (map (column row) columns) places at name
      → parsed_of reading (column row (place at)) ≡ Some name
  unfolding parsed_in
  name_at reading at name h =
      shown_in (parsed_of reading) refl row columns (slice_index places at) name h

  number_at : (at n : ℕ) → HoldsNumber (map (column row) columns) places at n
      → natural_value (column row (place at)) ≡ Some n
  unfolding number_in
  number_at at n h = shown_in natural_value refl row columns (slice_index places at) n h

  module _ (params : Row) where
    pub of_meeting : (m a : List ℕ) → NamesMeeting m params
        → HoldMeeting (map (column row) columns) places a
        → passes (first_test columns places) params row ≡ same_name a m
    of_meeting m a given held =
        subst (λ (p : Row). passes (first_test columns places) p row ≡ same_name a m) (sym given.is)
        (one_decides row (place 0) given.meeting m a (name_at meeting_of 0 a held) given.named)

    pub of_party : (m n a b : List ℕ) → NamesParty m n params
        → HoldParty (map (column row) columns) places (a, b)
        → passes (both_tests columns places) params row ≡ (same_name a m && same_name b n)
    of_party m n a b given held =
        subst (λ (p : Row). passes (both_tests columns places) p row
        ≡ (same_name a m && same_name b n))
        (sym given.is)
        (both_decide row (place 0) (place 1) given.meeting m given.party n a b
        (name_at meeting_of 0 a held.0) given.named (name_at party_of 1 b held.1) given.of)

    pub of_number : (m a : List ℕ) (n b : ℕ) → NamesNumber m n params
        → HoldNumber (map (column row) columns) places (a, b)
        → passes (both_tests columns places) params row ≡ (same_name a m && b == n)
    of_number m a n b given held =
        subst (λ (p : Row). passes (both_tests columns places) p row ≡ (same_name a m && b == n))
        (sym given.is)
        (number_decides row (place 0) (place 1) given.meeting m a given.number n b
        (name_at meeting_of 0 a held.0) given.named (number_at 1 b held.1) given.of)

    pub of_parties : (m n p a b d : List ℕ) → NamesParties m n p params
        → HoldParties (map (column row) columns) places (a, b, d)
        → passes (three_tests columns places) params row
        ≡ (same_name a m && (same_name b n && same_name d p))
    of_parties m n p a b d given held =
        subst (λ (q : Row). passes (three_tests columns places) q row
        ≡ (same_name a m && (same_name b n && same_name d p)))
        (sym given.is)
        (three_decide row (place 0) (place 1) (place 2) given.meeting m given.party n given.other p
        a b d (name_at meeting_of 0 a held.0) given.named (name_at party_of 1 b held.1) given.of
        (name_at party_of 2 d held.2) given.with)

    pub of_numbered : (m n a b : List ℕ) (k d : ℕ) → NamesNumbered m n k params
        → HoldNumbered (map (column row) columns) places (a, b, d)
        → passes (three_tests columns places) params row
        ≡ (same_name a m && (same_name b n && d == k))
    of_numbered m n a b k d given held =
        subst (λ (q : Row). passes (three_tests columns places) q row
        ≡ (same_name a m && (same_name b n && d == k)))
        (sym given.is)
        (numbered_decide row (place 0) (place 1) (place 2) given.meeting m given.party n a b
        given.number k d (name_at meeting_of 0 a held.0) given.named (name_at party_of 1 b held.1)
        given.of (number_at 2 d held.2) given.with)
