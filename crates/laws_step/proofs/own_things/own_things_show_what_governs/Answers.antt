use Rattle.laws_step.proofs.OwnThingsLemmas.{what_governs}
use Rattle.laws_step.proofs.own_things.own_things_show_what_governs.Goals as goal

pub returns : goal.returns
returns c = what_governs
