use Rattle.std.proofs.Common.{ap, sym, ◌∙◌}
use Rattle.vote_rules.specs.Tallies.{tally_of}
use Rattle.vote_rules.proofs.OwnCastLemmas.{own_tally}
use Rattle.vote_rules.proofs.laws.tallies_read_their_own_casts.Goals as goal

pub returns : goal.returns
returns c = λ cutoffs register given ended authorities casts others resolution alike.
    sym (own_tally cutoffs register given ended authorities casts resolution)
    ∙ ap (λ marks. tally_of cutoffs register given ended authorities marks resolution) alike
    ∙ own_tally cutoffs register given ended authorities others resolution
