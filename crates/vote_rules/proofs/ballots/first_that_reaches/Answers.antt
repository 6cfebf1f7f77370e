use Rattle.std.proofs.Common.{rules}
use Rattle.std.specs.Prelude.{nat_lt}
use Rattle.proxy_rules.specs.declared.pieces.GovernedPiece.{GovernedPiece}
use Rattle.std.proofs.lemmas.List.Sorted.{IsPartitionPoint-from_clause}
use Rattle.vote_rules.proofs.VoteOrderLemmas.{reached_last}
use Rattle.vote_rules.proofs.ballots.first_that_reaches.Goals as goal

pub returns : goal.returns
returns c =
    let governed = c.args.governed.now in
    let place = c.args.place in
    IsPartitionPoint-from_clause (λ (p : GovernedPiece). nat_lt p.range.to place) governed c.partition_point.result c.partition_point.ensures.partitioned
    (reached_last 1 c.requires.0 governed place c.requires.1) (λ a r f t. search rules)
