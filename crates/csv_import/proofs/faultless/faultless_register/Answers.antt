use Rattle.csv_import.proofs.FaultlessLemmas.{faultless-if}
use Rattle.csv_import.proofs.faultless.faultless_register.Goals as goal

pub returns-in_ok-rows-in-Ok : goal.returns-in_ok-rows-in-Ok
returns-in_ok-rows-in-Ok c =
    rw c.ok.ensures.value (faultless-if c.args.bytes.now _ c.in_ok-rows-in-Ok.rows.items c.new.result c.in-Ok.ensures c.in_ok-rows-in-Ok.ensures c.new.ensures.value)
