use Rattle.std.proofs.Common.{rules}
use Rattle.office_days.proofs.notice.enough_notice.Goals as goal

pub returns : goal.returns
returns c = search rules
