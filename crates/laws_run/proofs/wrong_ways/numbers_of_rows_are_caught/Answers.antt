use Rattle.laws_run.specs.WrongMoments.{both_appoint_apart, office_of_both, shows_the_row}
use Rattle.laws_run.specs.WrongWays.{member_appoints, the_member}
use Rattle.laws_run.proofs.RunsRunLemmas.{runs_isolated}
use Rattle.laws_run.proofs.WrongRuns.{caught_by, rows_apart}
use Rattle.laws_run.proofs.wrong_ways.numbers_of_rows_are_caught.Goals as goal

pub returns-clause-apart : goal.returns-clause-apart
returns-clause-apart c = rows_apart

pub returns-clause-caught : goal.returns-clause-caught
returns-clause-caught c = caught_by shows_the_row the_member office_of_both member_appoints both_appoint_apart rows_apart

pub returns-clause-steps_caught : goal.returns-clause-steps_caught
returns-clause-steps_caught c = λ steps. caught_by shows_the_row the_member office_of_both member_appoints both_appoint_apart rows_apart (runs_isolated shows_the_row steps)
