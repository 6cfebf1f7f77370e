use Rattle.std.proofs.Common.{ap}
use Rattle.vocabulary.specs.ResultSteps.{◌>>=◌}
use Rattle.vocabulary.specs.Identity.{id}
use Rattle.csv_import.specs.RegisterFiles.{as_register, register_file}
use Rattle.csv_import.proofs.FileRowLemmas.{gives-fault, gives-same}
use Rattle.csv_import.proofs.register_file.judged_register.Goals as goal

pub returns-in-Ok : goal.returns-in-Ok
unfolding register_file
returns-in-Ok c = gives-same id c.as_register.result _ (register_file c.args.bytes.now) c.as_register.ensures.register (ap (λ rows. rows >>= as_register) c.in-Ok.ensures)

pub returns-in-Err : goal.returns-in-Err
unfolding register_file
returns-in-Err c = gives-fault id id c.in-Err.fault _ (register_file c.args.bytes.now) c.in-Err.ensures (λ h. ap (λ rows. rows >>= as_register) h)
