use Rattle.laws_step.proofs.OwnThingsLemmas.{of_the_meeting, own_alone}
use Rattle.laws_step.proofs.own_things.own_things_are_ones_own.Goals as goal

pub returns-clause-own : goal.returns-clause-own
returns-clause-own c = own_alone

pub returns-clause-office : goal.returns-clause-office
returns-clause-office c = of_the_meeting
