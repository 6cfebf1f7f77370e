-- Ranges that were covered in turn, the oldest first, each with its tag.
use Rattle.std.specs.Prelude.{◌+◌, ◌==◌, Bool, ◌&&◌, ◌||◌, List, map, filter, find, fold, reverse, Option}
use Rattle.std.specs.List.{list_any}
use Rattle.std.specs.Option.{option_map}
use Rattle.desk_words.specs.Places.{Places, holds}
use Rattle.desk_words.specs.ViewTypes.{Place}
use Rattle.share_blocks.specs.Pieces.{Piece, uncovered, covered}
use Rattle.share_blocks.specs.Tags.{Tag}

-- a range with the tag that it was covered with
abbrev pub Cover : Type 0
Cover = Places × Tag

-- the tags of the covers that hold a place, the newest first
abbrev pub tags_of : List Cover → Place → List Tag
tags_of covers place =
    map (λ (cover : Cover). cover.1)
    (filter (λ (cover : Cover). holds cover.0 place) (reverse covers))

-- the tag of the newest cover that holds the place and whose tag passes the test
abbrev pub newest_of : (Tag → Bool) → List Cover → Place → Option Tag
newest_of test covers place =
    option_map (λ (cover : Cover). cover.1)
    (find (λ (cover : Cover). holds cover.0 place && test cover.1) (reverse covers))

-- whether a place is a cut: a covered range begins there, or has just ended
abbrev pub is_cut : List Cover → Place → Bool
is_cut covers place =
    list_any (λ (cover : Cover). cover.0.from == place || cover.0.to + 1 == place) covers

-- the pieces that were left when the ranges had been covered in turn
abbrev pub pieces_after : List Cover → List Piece
pieces_after covers =
    fold (λ (pieces : List Piece) (cover : Cover). covered cover.0 cover.1 pieces) uncovered covers
