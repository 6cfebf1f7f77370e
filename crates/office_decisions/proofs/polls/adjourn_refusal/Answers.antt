use Rattle.std.proofs.Common.{rules}
use Rattle.office_decisions.proofs.polls.adjourn_refusal.Goals as goal

pub returns : goal.returns
returns c = search rules
