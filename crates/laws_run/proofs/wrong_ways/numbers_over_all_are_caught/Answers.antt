use Rattle.std.specs.Prelude.{[]}
use Rattle.laws_step.specs.WrongAnswers.{office_with}
use Rattle.laws_run.specs.WrongWays.{both_appoint, member_appoints, shows_all_numbers, the_member}
use Rattle.laws_run.proofs.RunsRunLemmas.{runs_isolated}
use Rattle.laws_run.proofs.WrongRuns.{caught_by, numbers_apart}
use Rattle.laws_run.proofs.wrong_ways.numbers_over_all_are_caught.Goals as goal

pub returns-clause-apart : goal.returns-clause-apart
returns-clause-apart c = numbers_apart

pub returns-clause-caught : goal.returns-clause-caught
returns-clause-caught c = caught_by shows_all_numbers the_member (office_with []) member_appoints both_appoint numbers_apart

pub returns-clause-steps_caught : goal.returns-clause-steps_caught
returns-clause-steps_caught c = λ steps. caught_by shows_all_numbers the_member (office_with []) member_appoints both_appoint numbers_apart (runs_isolated shows_all_numbers steps)
