use Rattle.laws_step.proofs.WorldLemmas.{replies_own, public_stays}
use Rattle.laws_step.proofs.worlds.two_worlds.Goals as goal

pub returns-clause-same : goal.returns-clause-same
returns-clause-same c = replies_own

pub returns-clause-quiet : goal.returns-clause-quiet
returns-clause-quiet c = public_stays
