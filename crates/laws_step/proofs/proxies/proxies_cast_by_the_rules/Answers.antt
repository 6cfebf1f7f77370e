use Rattle.laws_step.proofs.StepCastLemmas.{bound_by_the_rules, governed_by_the_rules, instructed_by_the_rules}
use Rattle.laws_step.proofs.proxies.proxies_cast_by_the_rules.Goals as goal

pub returns-clause-governs : goal.returns-clause-governs
returns-clause-governs c = governed_by_the_rules

pub returns-clause-against : goal.returns-clause-against
returns-clause-against c = bound_by_the_rules

pub returns-clause-instructed : goal.returns-clause-instructed
returns-clause-instructed c = instructed_by_the_rules
