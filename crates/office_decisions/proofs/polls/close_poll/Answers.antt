use Rattle.std.proofs.Common.{rules}
use Rattle.office_decisions.proofs.polls.close_poll.Goals as goal

pub returns-clause-answer : goal.returns-clause-answer
returns-clause-answer c = search rules
