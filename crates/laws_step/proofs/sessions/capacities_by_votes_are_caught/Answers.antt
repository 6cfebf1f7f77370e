use Rattle.laws_step.proofs.WrongAdjourned.{caught, role_taken}
use Rattle.laws_step.proofs.sessions.capacities_by_votes_are_caught.Goals as goal

pub returns-clause-role : goal.returns-clause-role
returns-clause-role c = role_taken

pub returns-clause-caught : goal.returns-clause-caught
returns-clause-caught c = caught
