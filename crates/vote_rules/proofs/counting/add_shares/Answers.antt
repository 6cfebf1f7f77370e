use Rattle.std.proofs.Common.{rules}
use Rattle.vote_rules.proofs.counting.add_shares.Goals as goal

pub returns : goal.returns
returns c = search rules
