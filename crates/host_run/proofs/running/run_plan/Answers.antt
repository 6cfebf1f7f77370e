use Rattle.std.proofs.Common.{rules}
use Rattle.host_run.proofs.running.run_plan.Goals as goal

pub returns-in-Keys : goal.returns-in-Keys
returns-in-Keys g c = search rules
