use Rattle.laws_step.specs.WrongOfficeReads.{lone_office}
use Rattle.laws_run.specs.WrongReplies.{meeting_with_proxy, member_asks, proxy_votes_first, shows_votes_on_shares}
use Rattle.laws_run.specs.WrongWays.{the_member}
use Rattle.laws_run.proofs.RunsRunLemmas.{runs_isolated}
use Rattle.laws_run.proofs.WrongRuns.{caught_by, shares_apart}
use Rattle.laws_run.proofs.wrong_ways.votes_on_shares_are_caught.Goals as goal

pub returns-clause-apart : goal.returns-clause-apart
returns-clause-apart c = shares_apart

pub returns-clause-caught : goal.returns-clause-caught
returns-clause-caught c = caught_by shows_votes_on_shares the_member (lone_office meeting_with_proxy) member_asks proxy_votes_first shares_apart

pub returns-clause-steps_caught : goal.returns-clause-steps_caught
returns-clause-steps_caught c = λ steps. caught_by shows_votes_on_shares the_member (lone_office meeting_with_proxy) member_asks proxy_votes_first shares_apart (runs_isolated shows_votes_on_shares steps)
