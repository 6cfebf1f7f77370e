use Rattle.std.proofs.Common.{rules}
use Rattle.office_days.proofs.notice.clear_days.Goals as goal

pub returns : goal.returns
returns c = search rules
