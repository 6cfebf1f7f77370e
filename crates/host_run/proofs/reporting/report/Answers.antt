use Rattle.std.proofs.Common.{rules}
use Rattle.host_run.proofs.reporting.report.Goals as goal

pub returns : goal.returns
returns g c = search rules
