use Rattle.std.specs.Prelude.{[], ◌∷◌}
use Rattle.laws_step.specs.WrongAnswers.{meeting_with_casts, vote_of_another}
use Rattle.laws_step.specs.WrongOwnThings.{demands_of_all, meeting_with_demand, meeting_with_presence, presence_of_any, quiet_meeting, votes_of_all}
use Rattle.laws_step.proofs.WrongReplies.{caught_by, demands_more, presence_more, votes_more}
use Rattle.laws_step.proofs.own_things.others_things_are_caught.Goals as goal

pub returns-clause-votes : goal.returns-clause-votes
returns-clause-votes c = votes_more

pub returns-clause-presence : goal.returns-clause-presence
returns-clause-presence c = presence_more

pub returns-clause-demands : goal.returns-clause-demands
returns-clause-demands c = demands_more

pub returns-clause-votes_caught : goal.returns-clause-votes_caught
returns-clause-votes_caught c = caught_by votes_of_all quiet_meeting (meeting_with_casts (vote_of_another ∷ [])) votes_more

pub returns-clause-presence_caught : goal.returns-clause-presence_caught
returns-clause-presence_caught c = caught_by presence_of_any quiet_meeting meeting_with_presence presence_more

pub returns-clause-demands_caught : goal.returns-clause-demands_caught
returns-clause-demands_caught c = caught_by demands_of_all quiet_meeting meeting_with_demand demands_more
