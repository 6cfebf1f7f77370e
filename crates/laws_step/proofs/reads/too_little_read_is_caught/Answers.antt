use Rattle.laws_step.proofs.StepReadLemmas.{row_missed, row_missed_caught}
use Rattle.laws_step.proofs.reads.too_little_read_is_caught.Goals as goal

pub returns-clause-row : goal.returns-clause-row
returns-clause-row c = row_missed

pub returns-clause-caught : goal.returns-clause-caught
returns-clause-caught c = row_missed_caught
