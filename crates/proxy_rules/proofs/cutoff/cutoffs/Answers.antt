use Rattle.std.proofs.Common.{rules}
use Rattle.proxy_rules.proofs.cutoff.cutoffs.Goals as goal

pub returns-in-Acts : goal.returns-in-Acts
returns-in-Acts c = search rules

pub returns-in-Vote-2 : goal.returns-in-Vote-2
returns-in-Vote-2 c = search rules
