use Rattle.laws_step.proofs.StepReadLemmas.{own_of_rows}
use Rattle.laws_step.proofs.reads.rows_give_own_things.Goals as goal

pub returns : goal.returns
returns c = own_of_rows
