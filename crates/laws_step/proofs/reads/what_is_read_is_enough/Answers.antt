use Rattle.laws_step.proofs.StepReadLemmas.{own_enough, rows_enough}
use Rattle.laws_step.proofs.reads.what_is_read_is_enough.Goals as goal

pub returns-clause-own : goal.returns-clause-own
returns-clause-own c = own_enough

pub returns-clause-rows : goal.returns-clause-rows
returns-clause-rows c = rows_enough
