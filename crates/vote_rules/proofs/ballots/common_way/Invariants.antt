use Rattle.std.proofs.Common.{◌≡◌, map, take}
use Rattle.vote_rules.specs.Ballots.{ways_at}
use Rattle.vote_rules.specs.Votes.{common_way}
use Rattle.vote_rules.proofs.ballots.common_way.Given as goal

-- the common way of the casts of the first voters
abbrev pub invariant-loop-blocks : goal.invariant-loop-blocks
invariant-loop-blocks g l = l.common ≡ common_way (ways_at (map g.B.Blocks.pieces (take l.blocks-index l.holders)) l.place)
