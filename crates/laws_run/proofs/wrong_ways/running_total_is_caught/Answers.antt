use Rattle.std.specs.Prelude.{[]}
use Rattle.laws_step.specs.WrongAnswers.{office_with}
use Rattle.laws_run.specs.WrongWays.{both_vote, member_votes, shows_the_count, the_member}
use Rattle.laws_run.proofs.RunsRunLemmas.{runs_isolated}
use Rattle.laws_run.proofs.WrongRuns.{caught_by, total_secret, votes_apart}
use Rattle.laws_run.proofs.wrong_ways.running_total_is_caught.Goals as goal

pub returns-clause-apart : goal.returns-clause-apart
returns-clause-apart c = votes_apart

pub returns-clause-caught : goal.returns-clause-caught
returns-clause-caught c = caught_by shows_the_count the_member (office_with []) member_votes both_vote votes_apart

pub returns-clause-steps_caught : goal.returns-clause-steps_caught
returns-clause-steps_caught c = λ steps. caught_by shows_the_count the_member (office_with []) member_votes both_vote votes_apart (runs_isolated shows_the_count steps)

pub returns-clause-secrecy_caught : goal.returns-clause-secrecy_caught
returns-clause-secrecy_caught c = total_secret
