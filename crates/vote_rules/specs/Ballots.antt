-- The valid vote of a place, by the pieces that the casts of each voter leave. For private
-- contracts.
use Rattle.std.specs.Prelude.{◌≡◌, ℕ, IsTrue, List, [], ◌∷◌, ◌++◌, All, map, find, Option, Some, None, option_and_then, if◌then◌else◌}
use Rattle.std.specs.List.{filter_map, slice_get}
use Rattle.vocabulary.specs.Places.{Places, holds}
use Rattle.vocabulary.specs.declared.kinds.Capacity.{Capacity}
use Rattle.vocabulary.specs.declared.kinds.Capacity.TheVariants.{Member, Rep}
use Rattle.vocabulary.specs.declared.kinds.HolderKind.{HolderKind}
use Rattle.vocabulary.specs.declared.kinds.HolderKind.TheVariants.{Individual, Corporation, Treasury}
use Rattle.vocabulary.specs.declared.kinds.Way.{Way}
use Rattle.desk_words.specs.ViewTypes.{Number, Party, Place}
use Rattle.desk_words.specs.declared.records.Appointment.{Appointment}
use Rattle.desk_words.specs.declared.records.Authority.{Authority}
use Rattle.proxy_rules.specs.declared.pieces.GovernedPiece.{GovernedPiece}
use Rattle.share_blocks.specs.Covers.{Cover}
use Rattle.share_blocks.specs.Pieces.{Piece}
use Rattle.proxy_rules.specs.Instructions.{allows, instructed_on, same_way}
use Rattle.vote_rules.specs.VoteCovers.{way_at}
use Rattle.proxy_rules.specs.Parties.{authorised_by}
use Rattle.proxy_rules.specs.Tiles.{are_tiled, governed_ranges}
use Rattle.vote_rules.specs.Votes.{common_way, first_that_applies}
use Rattle.vote_rules.specs.declared.received.BlockCast.{BlockCast}

-- those who vote for the holder: the individual itself, or the representatives of the corporation
-- (sections 284 and 323)
abbrev pub voters_for : List Authority → HolderKind → Party → List Party
voters_for authorities Individual member = member ∷ []
voters_for authorities Corporation member = authorised_by authorities member
voters_for authorities Treasury member = []

-- the capacity in which they vote
abbrev pub capacity_for : HolderKind → Capacity
capacity_for Individual = Member
capacity_for Corporation = Rep
capacity_for Treasury = Member

-- a way, if a proxy who is so instructed, or free, may vote it
abbrev pub vote_if : Option Way → Way → Option Way
vote_if wanted way = if allows wanted way then Some way else None

-- the vote by the proxy of an appointment, whose casts leave these pieces
abbrev pub vote_by_proxy : Number → Place → Appointment → List Piece → Option Way
vote_by_proxy resolution place a pieces =
    let wanted = instructed_on resolution a.instructions in
    option_and_then (vote_if wanted) (way_at wanted pieces place)

-- the vote by the proxy of the appointment that stands at a place of a list, with the pieces that
-- stand there too
abbrev pub vote_by_governing : Number → Place → List Appointment → List (List Piece) → Option ℕ
    → Option Way
vote_by_governing resolution place appointed proxies by =
    option_and_then
    (λ at. option_and_then
    (λ (a : Appointment). option_and_then (vote_by_proxy resolution place a)
    (slice_get proxies at))
    (slice_get appointed at))
    by

-- the ways in which the holder's voters cast on the place
abbrev pub ways_at : List (List Piece) → Place → List Way
ways_at holders place = filter_map (λ pieces. way_at None pieces place) holders

-- the common way of casts and of one more
abbrev pub joined_way : Option (Option Way) → Way → Option Way
joined_way None way = Some way
joined_way (Some None) way = None
joined_way (Some (Some first)) way = if same_way first way then Some first else None

-- the valid vote of the place: that of the holder's voters, and else that of the proxy who governs
-- it
abbrev pub vote_by : List (List Piece) → List (List Piece) → List Appointment → Option ℕ → Number
    → Place → Option Way
vote_by holders proxies appointed by resolution place =
    first_that_applies
    (common_way (ways_at holders place)
    ∷ Some (vote_by_governing resolution place appointed proxies by) ∷ [])

-- pieces of the first places, one behind the other, without gaps
abbrev pub AreInOrder : List GovernedPiece → Type 0
AreInOrder governed = (last : Place) × IsTrue (are_tiled 1 (governed_ranges governed) last)

-- the piece that holds the place
abbrev pub piece_at : List GovernedPiece → Place → Option GovernedPiece
piece_at governed place = find (λ (piece : GovernedPiece). holds piece.range place) governed

-- where the appointment stands that governs the place
abbrev pub governing_at : List GovernedPiece → Place → Option ℕ
governing_at governed place =
    option_and_then (λ (piece : GovernedPiece). piece.by) (piece_at governed place)

-- where what governs changes, and where casts begin or have just ended
abbrev pub cuts_of : List GovernedPiece → List BlockCast → List Cover
cuts_of governed casts =
    map (λ (piece : GovernedPiece). (piece.range, 4)) governed
    ++ map (λ (c : BlockCast). (c.block.range, 4)) casts

-- each of the covers holds all places of the range or none
abbrev pub IsUncut : List Cover → Places → Type 0
IsUncut covers range =
    (place : Place)
    → IsTrue (holds range place)
    → All (λ (cover : Cover). holds cover.0 place ≡ holds cover.0 range.from) covers
