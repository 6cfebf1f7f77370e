use Rattle.std.proofs.Common.{ap}
use Rattle.vocabulary.specs.ResultSteps.{◌>>=◌}
use Rattle.vocabulary.specs.Identity.{id}
use Rattle.csv_import.specs.KeyFiles.{as_key_list, key_file}
use Rattle.csv_import.proofs.FileRowLemmas.{gives-fault, gives-same}
use Rattle.csv_import.proofs.key_file.keys_in.Goals as goal

pub returns-in-Ok : goal.returns-in-Ok
unfolding key_file
returns-in-Ok c = gives-same id c.as_key_list.result _ (key_file c.args.bytes.now) c.as_key_list.ensures.keys (ap (λ rows. rows >>= as_key_list) c.in-Ok.ensures)

pub returns-in-Err : goal.returns-in-Err
unfolding key_file
returns-in-Err c = gives-fault id id c.in-Err.fault _ (key_file c.args.bytes.now) c.in-Err.ensures (λ h. ap (λ rows. rows >>= as_key_list) h)
