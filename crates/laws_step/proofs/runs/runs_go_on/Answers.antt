use Rattle.laws_step.proofs.StepRunLemmas.{runs_go_on}
use Rattle.laws_step.proofs.runs.runs_go_on.Goals as goal

pub returns : goal.returns
returns c = runs_go_on
