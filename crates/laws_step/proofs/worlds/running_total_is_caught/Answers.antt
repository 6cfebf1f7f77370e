use Rattle.laws_step.proofs.WrongAnswers.{caught, running_names, distinguished}
use Rattle.laws_step.proofs.worlds.running_total_is_caught.Goals as goal

pub returns-clause-names : goal.returns-clause-names
returns-clause-names c = running_names

pub returns-clause-apart : goal.returns-clause-apart
returns-clause-apart c = distinguished

pub returns-clause-caught : goal.returns-clause-caught
returns-clause-caught c = caught
