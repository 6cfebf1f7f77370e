use Rattle.vote_rules.specs.Tallies.{vote_at}
use Rattle.vote_rules.proofs.VoteCountLemmas.{is_tally-tally_by}
use Rattle.vote_rules.proofs.laws.tallies_fit.Goals as goal

pub returns : goal.returns
returns c = λ cutoffs register given ended authorities casts resolution rows. is_tally-tally_by (vote_at cutoffs given ended authorities casts resolution) register rows
