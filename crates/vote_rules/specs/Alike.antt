-- Holdings whose shares all have one vote. For private contracts.
use Rattle.std.specs.Prelude.{◌≡◌, ℕ, Bool, ◌≤◌, ◌&&◌, ◌==◌, nat_le, IsTrue, List, find, reverse, Option, Some, None, option_and_then, if◌then◌else◌}
use Rattle.vocabulary.specs.Names.{same_name}
use Rattle.vocabulary.specs.declared.kinds.Capacity.TheVariants.{Member}
use Rattle.vocabulary.specs.declared.kinds.Way.{Way}
use Rattle.desk_words.specs.ViewTypes.{Number, Party}
use Rattle.desk_words.specs.declared.records.Authority.{Authority}
use Rattle.desk_words.specs.declared.records.RegisterRow.{RegisterRow}
use Rattle.proxy_rules.specs.Parties.{same_capacity}
use Rattle.proxy_rules.specs.Shares.{shares_of}
use Rattle.share_blocks.specs.Pieces.{is_place}
use Rattle.vote_rules.specs.Casts.{Share}
use Rattle.vote_rules.specs.VoteCovers.{vote_among}
use Rattle.vote_rules.specs.declared.received.BlockCast.{BlockCast}

-- the voter casts the block as the member
abbrev pub is_own : Party → BlockCast → Bool
is_own voter cast = same_capacity cast.block.capacity Member && same_name cast.voter voter

-- the voter's newest block as the member
abbrev pub newest_own : Party → List BlockCast → Option BlockCast
newest_own voter casts = find (is_own voter) (reverse casts)

-- the way of a block that is on all of so many shares
abbrev pub way_on_all : ℕ → BlockCast → Option Way
way_on_all shares cast =
    if cast.block.range.from == 1 && nat_le shares cast.block.range.to
    then Some cast.block.way
    else None

-- the way of the voter's newest block as the member, if it is on all of so many shares
abbrev pub way_of_newest : ℕ → Party → List BlockCast → Option Way
way_of_newest shares voter casts = option_and_then (way_on_all shares) (newest_own voter casts)

-- each share of the row has this vote, whoever governs it
abbrev pub AllVote : List BlockCast → (Party → Option ℕ) → RegisterRow → Option Way → Type 0
AllVote casts last row vote =
    (authorities : List Authority) (resolution : Number) (share : Share)
    → IsTrue (is_place share.place)
    → share.place ≤ shares_of row
    → vote_among casts last authorities resolution row share ≡ vote
