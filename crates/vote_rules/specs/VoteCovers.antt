-- A voter's casts as covers of a member's places. For private contracts.
use Rattle.std.specs.Prelude.{ℕ, ◌&&◌, ◌==◌, List, [], ◌∷◌, ◌++◌, filter, Option, Some, None, if◌then◌else◌}
use Rattle.std.specs.List.{filter_map}
use Rattle.vocabulary.specs.declared.range.TheConstants.{MOST_PLACES}
use Rattle.vocabulary.specs.Names.{same_name}
use Rattle.vocabulary.specs.declared.kinds.Capacity.{Capacity}
use Rattle.vocabulary.specs.declared.kinds.Capacity.TheVariants.{Proxy}
use Rattle.vocabulary.specs.declared.kinds.Way.{Way}
use Rattle.vocabulary.specs.declared.kinds.Way.TheVariants.{For, Against, Withheld}
use Rattle.desk_words.specs.ViewTypes.{Number, Party, Place}
use Rattle.desk_words.specs.declared.records.Authority.{Authority}
use Rattle.desk_words.specs.declared.records.RegisterRow.{RegisterRow}
use Rattle.share_blocks.specs.Covers.{Cover, pieces_after}
use Rattle.share_blocks.specs.Pieces.{Piece, tags_at}
use Rattle.share_blocks.specs.Tags.{Tag}
use Rattle.proxy_rules.specs.Parties.{same_capacity}
use Rattle.vote_rules.specs.Casts.{Share, find_map, instructed_way}
use Rattle.vote_rules.specs.InstructedCasts.{is_after, is_before}
use Rattle.vote_rules.specs.Votes.{valid_vote}
use Rattle.vote_rules.specs.declared.received.BlockCast.{BlockCast}

-- the tag of each way; the tag 4 is for what is cast as instructed
abbrev pub way_number : Way → Tag
way_number For = 1
way_number Against = 2
way_number Withheld = 3

-- the way of a tag, where what is cast as instructed has this way or none
abbrev pub way_tagged : Option Way → Tag → Option Way
way_tagged instructed tag =
    if tag == 1
    then Some For
    else
    (if tag == 2
    then Some Against
    else (if tag == 3 then Some Withheld else (if tag == 4 then instructed else None)))

-- the places of a voter's block, with the tag of its way
abbrev pub cover_of : Capacity → Party → BlockCast → Option Cover
cover_of capacity voter cast =
    if same_capacity cast.block.capacity capacity && same_name cast.voter voter
    then Some (cast.block.range, way_number cast.block.way)
    else None

-- all places, for what is cast as instructed
abbrev pub whole_cover : Cover
whole_cover = (record { from = 1; to = MOST_PLACES }, 4)

-- the covers of a voter's casts in order of receipt: its blocks, and all places where it last cast
-- as instructed, if it did
abbrev pub vote_covers : Capacity → Party → List BlockCast → Option ℕ → List Cover
vote_covers capacity voter casts None = filter_map (cover_of capacity voter) casts
vote_covers capacity voter casts (Some order) =
    filter_map (cover_of capacity voter) (filter (is_before order) casts) ++ whole_cover
    ∷ [] ++ filter_map (cover_of capacity voter) (filter (is_after order) casts)

-- what a voter's casts leave of the places
abbrev pub vote_pieces : List BlockCast → (Party → Option ℕ) → Capacity → Party → List Piece
vote_pieces casts last capacity voter = pieces_after (vote_covers capacity voter casts (last voter))

-- the way of the newest tag of a place that has one
abbrev pub way_at : Option Way → List Piece → Place → Option Way
way_at instructed pieces place = find_map (way_tagged instructed) (tags_at pieces place)

-- what is cast as instructed, in a capacity
abbrev pub as_proxy : Capacity → Option Way → Option Way
as_proxy capacity way = if same_capacity Proxy capacity then way else None

-- a voter's cast on the share in a capacity, by the blocks that are cast on the shares of its
-- member
abbrev pub cast_among : List BlockCast → (Party → Option ℕ) → Number → Share → Capacity → Party
    → Option Way
cast_among casts last resolution share capacity voter =
    way_at (as_proxy capacity (instructed_way resolution share voter))
    (vote_pieces casts last capacity voter) share.place

-- the valid vote of the share, by these blocks
abbrev pub vote_among : List BlockCast → (Party → Option ℕ) → List Authority → Number → RegisterRow
    → Share → Option Way
vote_among casts last authorities resolution row share =
    valid_vote (cast_among casts last resolution share) authorities resolution row share.governing
