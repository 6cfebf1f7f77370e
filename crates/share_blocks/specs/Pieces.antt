-- The places of a member's shares, parted into pieces.
use Rattle.std.specs.Prelude.{◌≡◌, ◌+◌, ◌-◌, ◌==◌, Bool, IsTrue, ◌&&◌, nat_le, nat_lt, List, [], ◌∷◌, map, if◌then◌else◌}
use Rattle.std.specs.List.{flat_map, list_any}
use Rattle.vocabulary.specs.declared.range.TheConstants.{MOST_PLACES}
use Rattle.desk_words.specs.Places.{Places, holds}
use Rattle.desk_words.specs.ViewTypes.{Place}
use Rattle.share_blocks.specs.Tags.{Tag}

-- places that stand together, and the tags that cover each of them, newest first
pub record Piece : Type 0 where
  pub range : Places
  pub tags : List Tag

-- all places in one piece, which nothing covers
abbrev pub uncovered : List Piece
uncovered = record { range = record { from = 1; to = MOST_PLACES }; tags = [] } ∷ []

-- the ranges of the pieces, in order
abbrev pub ranges_of : List Piece → List Places
ranges_of pieces = map (λ (piece : Piece). piece.range) pieces

-- the tags of a place are those of the piece that holds it; what is no place has none
abbrev pub tags_at : List Piece → Place → List Tag
tags_at [] place = []
tags_at (piece ∷ pieces) place =
    if holds piece.range place then piece.tags else tags_at pieces place

-- whether a range holds both a place and the one before it
abbrev pub straddles : Place → Places → Bool
straddles place range = nat_lt range.from place && nat_le place range.to

-- what a piece holds before the place, and what from the place on
abbrev pub split_at : Place → Piece → List Piece
split_at place piece =
    record { range = record { from = piece.range.from; to = place - 1 }; tags = piece.tags }
    ∷ record { range = record { from = place; to = piece.range.to }; tags = piece.tags } ∷ []

-- a piece, in two where it holds both the place and the one before it
abbrev pub cut_piece : Place → Piece → List Piece
cut_piece place piece = if straddles place piece.range then split_at place piece else piece ∷ []

-- the pieces, parted before the place too
abbrev pub cut_at : Place → List Piece → List Piece
cut_at place pieces = flat_map (cut_piece place) pieces

-- a piece, with the tag in front of its tags if it begins in the range
abbrev pub tagged : Places → Tag → Piece → Piece
tagged range tag piece = record {
  range = piece.range;
  tags = (if holds range piece.range.from then tag ∷ piece.tags else piece.tags);
}

-- the pieces after a range was covered: parted where it begins and where it has ended, with the tag
-- in front of the tags of each piece in the range
abbrev pub covered : Places → Tag → List Piece → List Piece
covered range tag pieces = map (tagged range tag) (cut_at (range.to + 1) (cut_at range.from pieces))

-- whether a number is that of a place
abbrev pub is_place : Place → Bool
is_place place = nat_le 1 place && nat_le place MOST_PLACES

-- whether the ranges hold the places from `first` to the last in order, each once
abbrev pub follow_from : Place → List Places → Bool
follow_from first [] = first == MOST_PLACES + 1
follow_from first (range ∷ ranges) =
    range.from == first && nat_le first range.to && follow_from (range.to + 1) ranges

-- whether one of the ranges begins at the place
abbrev pub begin_at : List Places → Place → Bool
begin_at ranges place = list_any (λ (range : Places). range.from == place) ranges

-- all places of the range have the tags of its first place
abbrev pub AreAlike : List Piece → Places → Type 0
AreAlike pieces range =
    (place : Place) → IsTrue (holds range place) → tags_at pieces place ≡ tags_at pieces range.from
