use Rattle.laws_step.proofs.StepOrderLemmas.{in_order, lowest}
use Rattle.laws_step.proofs.refusals.lowest_refusal.Goals as goal

pub returns-clause-order : goal.returns-clause-order
returns-clause-order c = in_order

pub returns-clause-lowest : goal.returns-clause-lowest
returns-clause-lowest c = lowest
