use Rattle.std.proofs.Common.{rules}
use Rattle.vote_rules.proofs.covers.pieces_by.Goals as goal

pub returns : goal.returns
returns g c = search rules
