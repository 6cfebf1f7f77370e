use Rattle.std.proofs.Common.{List, ◌++◌, length, ap₂}
use Rattle.std.proofs.lemmas.List.{drop-replicate}
use Rattle.vocabulary.specs.declared.kinds.Instr.{Instr}
use Rattle.vocabulary.specs.declared.kinds.Instr.TheVariants.{Free}
use Rattle.vocabulary.proofs.instructions.in_places.Goals as goal

pub returns : goal.returns
returns g c = ap₂ (λ (front rest : List Instr). front ++ rest) c.copy_from_slice.ensures.after (drop-replicate (length c.args.kinds.now) g.row.N Free)
