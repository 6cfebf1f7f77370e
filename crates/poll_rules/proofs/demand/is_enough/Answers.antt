use Rattle.std.proofs.Common.{rules}
use Rattle.poll_rules.proofs.demand.is_enough.Goals as goal

pub returns-then-sums : goal.returns-then-sums
returns-then-sums c = search rules

pub returns-else-sums : goal.returns-else-sums
returns-else-sums c = search rules
