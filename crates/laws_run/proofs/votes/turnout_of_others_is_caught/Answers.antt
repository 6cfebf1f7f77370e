use Rattle.laws_run.specs.WrongCounts.{meeting_of_two, shows_turnout_of_others, vote_and_declare_another}
use Rattle.laws_step.specs.WrongOfficeReads.{lone_office}
use Rattle.laws_run.proofs.WrongCloses.{others_shown, shown_caught, shown_caught_in_steps}
use Rattle.laws_run.proofs.votes.turnout_of_others_is_caught.Goals as goal

pub returns-clause-apart : goal.returns-clause-apart
returns-clause-apart c = others_shown

pub returns-clause-caught : goal.returns-clause-caught
returns-clause-caught c = shown_caught shows_turnout_of_others (lone_office meeting_of_two) vote_and_declare_another others_shown

pub returns-clause-steps_caught : goal.returns-clause-steps_caught
returns-clause-steps_caught c = shown_caught_in_steps shows_turnout_of_others (lone_office meeting_of_two) vote_and_declare_another others_shown
