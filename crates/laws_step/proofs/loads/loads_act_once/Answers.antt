use Rattle.laws_step.proofs.StepLoadLemmas.{load_held, office_of_one, run_of_one, same_again}
use Rattle.laws_step.proofs.loads.loads_act_once.Goals as goal

pub returns-clause-held : goal.returns-clause-held
returns-clause-held c = load_held

pub returns-clause-same : goal.returns-clause-same
returns-clause-same c = same_again

pub returns-clause-office : goal.returns-clause-office
returns-clause-office c = office_of_one

pub returns-clause-run : goal.returns-clause-run
returns-clause-run c = run_of_one
