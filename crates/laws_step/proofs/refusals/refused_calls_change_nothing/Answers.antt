use Rattle.meeting_core.proofs.StepLaws.{no_change, office_left}
use Rattle.laws_step.proofs.refusals.refused_calls_change_nothing.Goals as goal

pub returns-clause-change : goal.returns-clause-change
returns-clause-change c = no_change

pub returns-clause-office : goal.returns-clause-office
returns-clause-office c = office_left
