use Rattle.std.proofs.Common.{ap, ◌∙◌}
use Rattle.proxy_rules.specs.Shares.{shares_of}
use Rattle.vote_rules.specs.Sums.{with_votes}
use Rattle.vote_rules.proofs.AlikeLemmas.{tally_of-alike}
use Rattle.vote_rules.proofs.counting.tally_alike.Goals as goal

pub returns : goal.returns
returns c =
    c.add_shares.ensures
    ∙ ap (λ n. with_votes c.args.vote n (record { votes_for = 0; votes_against = 0; withheld = 0; eligible = 0 })) c.shares.ensures
    ∙ tally_of-alike c.args.vote (shares_of c.args.row.now)
