-- The places of a holding in pieces, each of which one appointment governs, or none.
use Rattle.std.specs.Prelude.{◌≡◌, ℕ, ◌+◌, ◌-◌, ◌==◌, Bool, true, IsTrue, ◌&&◌, nat_le, List, [], ◌∷◌, All, map, sum_by, Option, option_and_then, if◌then◌else◌}
use Rattle.std.specs.List.{slice_get}
use Rattle.vocabulary.specs.Places.{Places, holds, places_that}
use Rattle.desk_words.specs.ViewTypes.{Place}
use Rattle.desk_words.specs.declared.records.Appointment.{Appointment}
use Rattle.proxy_rules.specs.declared.holdings.Holding.{Holding}
use Rattle.proxy_rules.specs.declared.meeting_records.Cutoffs.{Cutoffs}
use Rattle.proxy_rules.specs.declared.pieces.GovernedPiece.{GovernedPiece}
use Rattle.proxy_rules.specs.Governing.{governing_in}

-- the ranges hold the places from the first to the last in order, each once
abbrev pub are_tiled : Place → List Places → Place → Bool
are_tiled first [] last = first == last + 1
are_tiled first (range ∷ ranges) last =
    range.from == first && nat_le first range.to && are_tiled (range.to + 1) ranges last

-- a test answers alike at all places of the range
abbrev pub IsAlike : (Place → Bool) → Places → Type 0
IsAlike test range = (place : Place) → IsTrue (holds range place) → test place ≡ test range.from

-- how many places a range holds
abbrev pub places_in : Places → ℕ
places_in range = range.to - range.from + 1

-- how many places of a range pass a test that answers alike at all of them
abbrev pub places_if : (Place → Bool) → Places → ℕ
places_if test range = if test range.from then places_in range else 0

-- the ranges of the pieces
abbrev pub governed_ranges : List GovernedPiece → List Places
governed_ranges pieces = map (λ (piece : GovernedPiece). piece.range) pieces

-- the appointment that the piece says governs it
abbrev pub governing_of : Holding → GovernedPiece → Option Appointment
governing_of holding piece = option_and_then (slice_get holding.appointed) piece.by

-- each place of the piece is governed by that appointment
abbrev pub IsGoverned : Cutoffs → Holding → GovernedPiece → Type 0
IsGoverned cutoffs holding piece =
    (place : Place)
    → IsTrue (holds piece.range place)
    → governing_in cutoffs holding place ≡ governing_of holding piece

-- the pieces part the shares of the holding in order, without gaps, and say of each what governs it
-- (section 324)
pub record ArePieces (cutoffs : Cutoffs) (holding : Holding) (pieces : List GovernedPiece)
    : Type 0 where
  pub tiled : are_tiled 1 (governed_ranges pieces) holding.shares ≡ true
  pub governed : All (IsGoverned cutoffs holding) pieces

-- over ranges that hold the places 1 to n in order, on each of which a test answers alike, the
-- places that pass are those of the ranges that pass
abbrev pub TilesCountPlaces : Type 0
TilesCountPlaces =
    (test : Place → Bool) (ranges : List Places) (n : ℕ)
    → are_tiled 1 ranges n ≡ true
    → All (IsAlike test) ranges
    → sum_by (places_if test) ranges ≡ places_that test n

-- how many places of a piece are governed by an appointment that passes, where none may pass too
abbrev pub shares_if : (Option Appointment → Bool) → Holding → GovernedPiece → ℕ
shares_if passes holding piece =
    if passes (governing_of holding piece) then places_in piece.range else 0

-- the shares of a holding that are governed by what passes are those of the pieces that pass
abbrev pub PiecesCountShares : Type 0
PiecesCountShares =
    (passes : Option Appointment → Bool) (cutoffs : Cutoffs) (holding : Holding)
    (pieces : List GovernedPiece)
    → ArePieces cutoffs holding pieces
    → sum_by (shares_if passes holding) pieces
    ≡ places_that (λ place. passes (governing_in cutoffs holding place)) holding.shares
