-- Casts on a share of a poll. The records of all casts stand in order of receipt.
use Rattle.std.specs.Prelude.{◌&&◌, ◌==◌, List, [], ◌∷◌, reverse, Option, Some, None, option_and_then, if◌then◌else◌}
use Rattle.std.specs.Option.{option_or}
use Rattle.vocabulary.specs.Names.{same_name}
use Rattle.vocabulary.specs.Places.{holds}
use Rattle.vocabulary.specs.declared.kinds.Capacity.{Capacity}
use Rattle.vocabulary.specs.declared.kinds.Capacity.TheVariants.{Proxy}
use Rattle.vocabulary.specs.declared.kinds.Way.{Way}
use Rattle.desk_words.specs.ViewTypes.{Number, Party, Place}
use Rattle.desk_words.specs.declared.records.Appointment.{Appointment}
use Rattle.desk_words.specs.declared.records.CastKind.{CastKind}
use Rattle.desk_words.specs.declared.records.CastKind.TheVariants as cast
use Rattle.desk_words.specs.declared.records.CastMark.{CastMark}
use Rattle.proxy_rules.specs.Instructions.{instructed_on}
use Rattle.proxy_rules.specs.Parties.{same_capacity}

-- the first value that a function gives over a list
abbrev pub find_map : {X Y : Type 0} → (X → Option Y) → List X → Option Y
find_map f [] = None
find_map f (x ∷ xs) = option_or (f x) (find_map f xs)

-- a share in a poll: who holds it, its place in the holding, and the appointment that governs it
-- (section 324)
pub record Share : Type 0 where
  pub member : Party
  pub place : Place
  pub governing : Option Appointment

-- the way in which a voter is instructed on the share: that of the appointment that governs it,
-- where it names the voter (section 324A)
abbrev pub instructed_way : Number → Share → Party → Option Way
instructed_way resolution share voter =
    option_and_then
    (λ (a : Appointment). if same_name a.proxy voter
    then instructed_on resolution a.instructions
    else None)
    share.governing

-- the way in which what is cast covers the share in a capacity, or none where it does not cover it:
-- a block covers, in its own capacity, the places of its range of the member that it names (section
-- 322); what is cast as instructed covers, as proxy, what the voter is instructed on (section 324A)
abbrev pub way_over : Capacity → Share → Option Way → CastKind → Option Way
way_over capacity share instructed (cast.Block block) =
    if same_capacity block.capacity capacity
    && same_name block.member share.member
    && holds block.range share.place
    then Some block.way
    else None
way_over capacity share instructed cast.AsInstructed =
    if same_capacity Proxy capacity then instructed else None

-- the way in which a record casts on the share, for a voter in a capacity, or none where it does
-- not cover the share
abbrev pub way_cast : Number → Share → Capacity → Party → CastMark → Option Way
way_cast resolution share capacity voter mark =
    if mark.resolution == resolution && same_name mark.voter voter
    then way_over capacity share (instructed_way resolution share voter) mark.what
    else None

-- a voter's cast on the share in a capacity: the last of its records that covers the share
abbrev pub last_cast : List CastMark → Number → Share → Capacity → Party → Option Way
last_cast casts resolution share capacity voter =
    find_map (way_cast resolution share capacity voter) (reverse casts)
