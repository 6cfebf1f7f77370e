use Rattle.std.proofs.Common.{refl}
use Rattle.share_blocks.proofs.MarkLemmas.{contains-all_marked}
use Rattle.share_blocks.proofs.admitted.Admitted.all.Goals as goal

pub returns : goal.returns
returns c = λ tag is. contains-all_marked 256 tag refl is
