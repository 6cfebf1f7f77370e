use Rattle.std.proofs.Common.{rules}
use Rattle.poll_rules.proofs.qualifying.present_in.Goals as goal

pub returns : goal.returns
returns c = search rules
