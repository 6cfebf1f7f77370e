use Rattle.std.specs.Prelude.{[]}
use Rattle.laws_step.specs.WrongAnswers.{office_with}
use Rattle.laws_run.specs.WrongReplies.{shows_voters_turnout}
use Rattle.laws_run.specs.WrongWays.{both_vote, member_votes, the_member}
use Rattle.laws_run.proofs.RunsRunLemmas.{runs_isolated}
use Rattle.laws_run.proofs.WrongRuns.{caught_by, turnout_apart, turnout_secret}
use Rattle.laws_run.proofs.wrong_ways.turnout_for_a_vote_is_caught.Goals as goal

pub returns-clause-apart : goal.returns-clause-apart
returns-clause-apart c = turnout_apart

pub returns-clause-caught : goal.returns-clause-caught
returns-clause-caught c = caught_by shows_voters_turnout the_member (office_with []) member_votes both_vote turnout_apart

pub returns-clause-steps_caught : goal.returns-clause-steps_caught
returns-clause-steps_caught c = λ steps. caught_by shows_voters_turnout the_member (office_with []) member_votes both_vote turnout_apart (runs_isolated shows_voters_turnout steps)

pub returns-clause-secrecy_caught : goal.returns-clause-secrecy_caught
returns-clause-secrecy_caught c = turnout_secret
