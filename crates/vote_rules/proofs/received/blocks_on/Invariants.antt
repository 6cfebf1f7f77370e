use Rattle.std.proofs.Common.{◌≡◌, take}
use Rattle.vote_rules.specs.InstructedCasts.{blocks_on}
use Rattle.vote_rules.proofs.received.blocks_on.Given as goal

-- the blocks of the first records
abbrev pub invariant-loop-order : goal.invariant-loop-order
invariant-loop-order l = l.blocks.items ≡ blocks_on l.resolution (take l.order l.casts)
