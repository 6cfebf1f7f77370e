use Rattle.std.proofs.Common.{refl}
use Rattle.laws_step.proofs.NamedLemmas.{names_own}
use Rattle.laws_step.proofs.worlds.names.Goals as goal

pub returns-clause-names : goal.returns-clause-names
returns-clause-names c = names_own

pub returns-clause-counts : goal.returns-clause-counts
returns-clause-counts c = λ declared. refl
