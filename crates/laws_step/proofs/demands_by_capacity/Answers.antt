use Rattle.laws_step.proofs.CapacityLemmas.{may_demand-qualifies}
use Rattle.laws_step.proofs.demands_by_capacity.Goals as goal

pub returns : goal.returns
returns c = λ m closed party now h. may_demand-qualifies m closed party now h
