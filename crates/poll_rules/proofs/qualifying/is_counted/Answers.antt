use Rattle.std.proofs.Common.{rules}
use Rattle.poll_rules.proofs.qualifying.is_counted.Goals as goal

pub returns-in-Treasury : goal.returns-in-Treasury
returns-in-Treasury c = search rules
