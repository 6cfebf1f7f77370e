use Rattle.laws_step.specs.WrongOfficeReads.{lone_office}
use Rattle.laws_run.specs.WrongReplies.{both_authorise, limits_all, meeting_with_authorities, member_authorises}
use Rattle.laws_run.specs.WrongWays.{the_member}
use Rattle.laws_run.proofs.RunsRunLemmas.{runs_isolated}
use Rattle.laws_run.proofs.WrongRuns.{caught_by, limits_apart}
use Rattle.laws_run.proofs.wrong_ways.limits_over_all_are_caught.Goals as goal

pub returns-clause-apart : goal.returns-clause-apart
returns-clause-apart c = limits_apart

pub returns-clause-caught : goal.returns-clause-caught
returns-clause-caught c = caught_by limits_all the_member (lone_office meeting_with_authorities) member_authorises both_authorise limits_apart

pub returns-clause-steps_caught : goal.returns-clause-steps_caught
returns-clause-steps_caught c = λ steps. caught_by limits_all the_member (lone_office meeting_with_authorities) member_authorises both_authorise limits_apart (runs_isolated limits_all steps)
