use Rattle.laws_step.specs.WrongOfficeReads.{lone_office}
use Rattle.laws_run.specs.WrongReplies.{both_demand, meeting_of_unequals, member_demands, shows_whether_enough}
use Rattle.laws_run.specs.WrongWays.{the_member}
use Rattle.laws_run.proofs.RunsRunLemmas.{runs_isolated}
use Rattle.laws_run.proofs.WrongRuns.{caught_by, enough_apart}
use Rattle.laws_run.proofs.wrong_ways.shown_demands_are_caught.Goals as goal

pub returns-clause-apart : goal.returns-clause-apart
returns-clause-apart c = enough_apart

pub returns-clause-caught : goal.returns-clause-caught
returns-clause-caught c = caught_by shows_whether_enough the_member (lone_office meeting_of_unequals) member_demands both_demand enough_apart

pub returns-clause-steps_caught : goal.returns-clause-steps_caught
returns-clause-steps_caught c = λ steps. caught_by shows_whether_enough the_member (lone_office meeting_of_unequals) member_demands both_demand enough_apart (runs_isolated shows_whether_enough steps)
