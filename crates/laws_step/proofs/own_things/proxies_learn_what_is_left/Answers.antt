use Rattle.laws_step.proofs.ReplacedLemmas.{no_name_or_pence, what_is_left}
use Rattle.laws_step.proofs.own_things.proxies_learn_what_is_left.Goals as goal

pub returns-clause-left : goal.returns-clause-left
returns-clause-left c = what_is_left

pub returns-clause-rows : goal.returns-clause-rows
returns-clause-rows c = no_name_or_pence
