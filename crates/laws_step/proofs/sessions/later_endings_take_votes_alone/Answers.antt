use Rattle.laws_step.proofs.AdjournedLemmas.{no_role, not_counted, vote_taken}
use Rattle.laws_step.proofs.sessions.later_endings_take_votes_alone.Goals as goal

pub returns-clause-capacity : goal.returns-clause-capacity
returns-clause-capacity c = no_role

pub returns-clause-counted : goal.returns-clause-counted
returns-clause-counted c = not_counted

pub returns-clause-votes : goal.returns-clause-votes
returns-clause-votes c = vote_taken
