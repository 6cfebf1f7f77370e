use Rattle.std.specs.Prelude.{[]}
use Rattle.laws_step.specs.WrongAnswers.{office_with}
use Rattle.laws_run.specs.WrongCounts.{shows_turnout, vote_and_close}
use Rattle.laws_run.proofs.WrongCloses.{turnout_shown, shown_caught, shown_caught_in_steps}
use Rattle.laws_run.proofs.votes.shown_turnout_is_caught.Goals as goal

pub returns-clause-apart : goal.returns-clause-apart
returns-clause-apart c = turnout_shown

pub returns-clause-caught : goal.returns-clause-caught
returns-clause-caught c = shown_caught shows_turnout (office_with []) vote_and_close turnout_shown

pub returns-clause-steps_caught : goal.returns-clause-steps_caught
returns-clause-steps_caught c = shown_caught_in_steps shows_turnout (office_with []) vote_and_close turnout_shown
