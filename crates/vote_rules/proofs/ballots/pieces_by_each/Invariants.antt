use Rattle.std.proofs.Common.{◌≡◌, map, take}
use Rattle.std.specs.BTreeMap.{get}
use Rattle.vocabulary.specs.Names.{name_cmp}
use Rattle.vote_rules.specs.VoteCovers.{vote_pieces}
use Rattle.vote_rules.proofs.ballots.pieces_by_each.Given as goal

-- those of the first voters
abbrev pub invariant-loop-voter : goal.invariant-loop-voter
invariant-loop-voter g l = map g.B.Blocks.pieces l.each.items ≡ map (vote_pieces l.casts (get name_cmp l.instructed) l.capacity) (take l.voter-index l.voters)
