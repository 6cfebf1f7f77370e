use Rattle.std.proofs.Common.{rules}
use Rattle.host_run.proofs.loads.load_file.Goals as goal

pub returns-in-Ok : goal.returns-in-Ok
returns-in-Ok g c = search rules
