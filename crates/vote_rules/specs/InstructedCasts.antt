-- What is cast on a resolution, by its place in the order of receipt.
use Rattle.std.specs.Prelude.{ℕ, Bool, true, false, not, ◌&&◌, ◌==◌, nat_lt, List, reverse, Option, Some, None, IsSortedByKey, if◌then◌else◌}
use Rattle.std.specs.List.{enumerate_from, filter_map}
use Rattle.std.specs.Ordering.{is_lt}
use Rattle.vocabulary.specs.Names.{name_cmp, same_name}
use Rattle.desk_words.specs.ViewTypes.{Number, Party}
use Rattle.desk_words.specs.declared.records.CastKind.{CastKind}
use Rattle.desk_words.specs.declared.records.CastKind.TheVariants as cast
use Rattle.desk_words.specs.declared.records.CastMark.{CastMark}
use Rattle.vote_rules.specs.Casts.{find_map}
use Rattle.vote_rules.specs.declared.received.BlockCast.{BlockCast}

-- a record with its place in the order of receipt
abbrev pub Entry : Type 0
Entry = ℕ × CastMark

-- a block that a voter casts, if it is on the right resolution
abbrev pub block_by : ℕ → Party → Bool → CastKind → Option BlockCast
block_by order voter right (cast.Block block) =
    if right then Some (record { order = order; voter = voter; block = block }) else None
block_by order voter right cast.AsInstructed = None

-- the block that a record casts on the resolution, if it does
abbrev pub block_on : Number → Entry → Option BlockCast
block_on resolution entry =
    block_by entry.0 entry.1.voter (entry.1.resolution == resolution) entry.1.what

-- the blocks that are cast on the resolution, in order of receipt
abbrev pub blocks_on : Number → List CastMark → List BlockCast
blocks_on resolution casts = filter_map (block_on resolution) (enumerate_from 0 casts)

-- the block is cast on the member's shares
abbrev pub is_on_shares_of : Party → BlockCast → Bool
is_on_shares_of member cast = same_name cast.block.member member

-- on those of a member who does not come before this one, and of one who comes after it
abbrev pub is_from_member : Party → BlockCast → Bool
is_from_member member cast = not (is_lt (name_cmp cast.block.member member))

abbrev pub is_past_member : Party → BlockCast → Bool
is_past_member member cast = is_lt (name_cmp member cast.block.member)

-- the blocks stand in the order of the members on whose shares they are cast
abbrev pub AreInMemberOrder : List BlockCast → Type 0
AreInMemberOrder blocks = IsSortedByKey (λ (cast : BlockCast). cast.block.member) name_cmp blocks

-- as instructed
abbrev pub is_as_instructed : CastKind → Bool
is_as_instructed (cast.Block block) = false
is_as_instructed cast.AsInstructed = true

-- cast on the resolution as instructed
abbrev pub is_instructed_on : Number → CastMark → Bool
is_instructed_on resolution mark = mark.resolution == resolution && is_as_instructed mark.what

-- the place of a record that the voter casts on the resolution as instructed
abbrev pub instructed_by : Number → Party → Entry → Option ℕ
instructed_by resolution voter entry =
    if is_instructed_on resolution entry.1 && same_name entry.1.voter voter
    then Some entry.0
    else None

-- the place of the last such record
abbrev pub last_instructed : Number → List CastMark → Party → Option ℕ
last_instructed resolution casts voter =
    find_map (instructed_by resolution voter) (reverse (enumerate_from 0 casts))

-- received before the record at that place, and after it
abbrev pub is_before : ℕ → BlockCast → Bool
is_before order cast = nat_lt cast.order order

abbrev pub is_after : ℕ → BlockCast → Bool
is_after order cast = nat_lt order cast.order
