-- What an appointment instructs its proxy to vote (section 324A).
use Rattle.std.specs.Prelude.{ℕ, ◌-◌, Bool, true, false, nat_lt, List, Option, Some, None, option_and_then, if◌then◌else◌}
use Rattle.std.specs.List.{slice_get}
use Rattle.std.specs.Option.{option_map_or}
use Rattle.vocabulary.specs.declared.kinds.Instr.{Instr}
use Rattle.vocabulary.specs.declared.kinds.Instr.TheVariants as instruction
use Rattle.vocabulary.specs.declared.kinds.Way.{Way}
use Rattle.vocabulary.specs.declared.kinds.Way.TheVariants.{For, Against, Withheld}

-- both are the same way
abbrev pub same_way : Way → Way → Bool
same_way For For = true
same_way Against Against = true
same_way Withheld Withheld = true
same_way _ _ = false

-- the way that an instruction names, or none where it leaves the proxy free
abbrev pub way_named : Instr → Option Way
way_named instruction.For = Some For
way_named instruction.Against = Some Against
way_named instruction.Withheld = Some Withheld
way_named instruction.Free = None

-- the way in which instructions, one for each resolution, tell the proxy to vote on a resolution,
-- of which the first is number 1, or none where they leave it free
abbrev pub instructed_on : ℕ → List Instr → Option Way
instructed_on resolution instructions =
    if nat_lt 0 resolution
    then option_and_then way_named (slice_get instructions (resolution - 1))
    else None

-- a proxy who is so instructed, or free, may vote that way
abbrev pub allows : Option Way → Way → Bool
allows instructed way = option_map_or (λ wanted. same_way wanted way) instructed true
