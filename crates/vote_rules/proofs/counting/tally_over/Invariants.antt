use Rattle.std.proofs.Common.{◌≡◌, map, take}
use Rattle.vote_rules.specs.Ballots.{governing_at, vote_by}
use Rattle.vote_rules.specs.Sums.{tally_over}
use Rattle.vote_rules.proofs.counting.tally_over.Given as goal

-- the first ranges are counted
abbrev pub invariant-loop-range : goal.invariant-loop-range
invariant-loop-range g l =
    l.tally ≡ tally_over (λ place. vote_by (map g.B.Blocks.pieces l.ballots.holders.items) (map g.B.Blocks.pieces l.ballots.proxies.items) l.appointed (governing_at l.governed place) l.resolution place) (take l.range-index l.ranges)
