use Rattle.std.proofs.Common.{◌≡◌, ℕ, List, take}
use Rattle.std.specs.BTreeMap.{get}
use Rattle.vocabulary.specs.Names.{name_cmp}
use Rattle.vote_rules.specs.InstructedCasts.{last_instructed}
use Rattle.vote_rules.proofs.received.last_instructed.Given as goal

-- among the first records
abbrev pub invariant-loop-order : goal.invariant-loop-order
invariant-loop-order l = (voter : List ℕ) → get name_cmp l.last voter ≡ last_instructed l.resolution (take l.order l.casts) voter
