use Rattle.laws_step.specs.WrongOfficeReads.{lone_office}
use Rattle.laws_run.specs.WrongReplies.{loaded_alone, loaded_both, meeting_unloaded, shows_the_place, the_other}
use Rattle.laws_run.proofs.RunsRunLemmas.{runs_isolated}
use Rattle.laws_run.proofs.WrongRuns.{caught_by, place_apart}
use Rattle.laws_run.proofs.wrong_ways.places_in_the_register_are_caught.Goals as goal

pub returns-clause-apart : goal.returns-clause-apart
returns-clause-apart c = place_apart

pub returns-clause-caught : goal.returns-clause-caught
returns-clause-caught c = caught_by shows_the_place the_other (lone_office meeting_unloaded) loaded_alone loaded_both place_apart

pub returns-clause-steps_caught : goal.returns-clause-steps_caught
returns-clause-steps_caught c = λ steps. caught_by shows_the_place the_other (lone_office meeting_unloaded) loaded_alone loaded_both place_apart (runs_isolated shows_the_place steps)
