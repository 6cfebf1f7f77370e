use Rattle.std.proofs.Common.{rules}
use Rattle.office_days.proofs.working.count_weekdays.Goals as goal

pub returns : goal.returns
returns c = search rules
