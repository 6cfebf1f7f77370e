use Rattle.std.proofs.Common.{rules}
use Rattle.office_days.proofs.closed.Closed.is_late.Goals as goal

pub returns : goal.returns
returns c = search rules
