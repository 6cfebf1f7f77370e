use Rattle.laws_run.specs.WrongMoments.{appoints_elsewhere, asks_notice, moves_the_record, office_of_both}
use Rattle.laws_run.specs.WrongWays.{the_member}
use Rattle.laws_run.proofs.RunsRunLemmas.{runs_isolated}
use Rattle.laws_run.proofs.WrongRuns.{caught_by, record_apart}
use Rattle.laws_run.proofs.wrong_ways.moved_record_moments_are_caught.Goals as goal

pub returns-clause-apart : goal.returns-clause-apart
returns-clause-apart c = record_apart

pub returns-clause-caught : goal.returns-clause-caught
returns-clause-caught c = caught_by moves_the_record the_member office_of_both asks_notice appoints_elsewhere record_apart

pub returns-clause-steps_caught : goal.returns-clause-steps_caught
returns-clause-steps_caught c = λ steps. caught_by moves_the_record the_member office_of_both asks_notice appoints_elsewhere record_apart (runs_isolated moves_the_record steps)
