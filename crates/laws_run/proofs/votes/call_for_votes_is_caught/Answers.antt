use Rattle.std.specs.Prelude.{[]}
use Rattle.laws_step.specs.WrongAnswers.{office_with}
use Rattle.laws_run.specs.WrongCounts.{calls_without_votes, vote_and_call}
use Rattle.laws_run.proofs.WrongCloses.{votes_asked, shown_caught, shown_caught_in_steps}
use Rattle.laws_run.proofs.votes.call_for_votes_is_caught.Goals as goal

pub returns-clause-apart : goal.returns-clause-apart
returns-clause-apart c = votes_asked

pub returns-clause-caught : goal.returns-clause-caught
returns-clause-caught c = shown_caught calls_without_votes (office_with []) vote_and_call votes_asked

pub returns-clause-steps_caught : goal.returns-clause-steps_caught
returns-clause-steps_caught c = shown_caught_in_steps calls_without_votes (office_with []) vote_and_call votes_asked
