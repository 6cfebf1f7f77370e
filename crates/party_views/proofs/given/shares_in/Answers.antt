use Rattle.std.proofs.Common.{rules}
use Rattle.party_views.proofs.given.shares_in.Goals as goal

pub returns-in-Corporation : goal.returns-in-Corporation
returns-in-Corporation c = search rules
