use Rattle.std.proofs.Common.{rules}
use Rattle.vote_rules.proofs.ballots.joined_way.Goals as goal

pub returns-in-Some-Some : goal.returns-in-Some-Some
returns-in-Some-Some c = search rules
