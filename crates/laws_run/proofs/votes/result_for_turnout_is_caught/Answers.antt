use Rattle.laws_step.specs.WrongAnswers.{office_with}
use Rattle.laws_run.specs.WrongCounts.{declares_after_five, four_votes, vote_and_declare}
use Rattle.laws_run.proofs.WrongCloses.{five_asked, shown_caught, shown_caught_in_steps}
use Rattle.laws_run.proofs.votes.result_for_turnout_is_caught.Goals as goal

pub returns-clause-apart : goal.returns-clause-apart
returns-clause-apart c = five_asked

pub returns-clause-caught : goal.returns-clause-caught
returns-clause-caught c = shown_caught declares_after_five (office_with four_votes) vote_and_declare five_asked

pub returns-clause-steps_caught : goal.returns-clause-steps_caught
returns-clause-steps_caught c = shown_caught_in_steps declares_after_five (office_with four_votes) vote_and_declare five_asked
