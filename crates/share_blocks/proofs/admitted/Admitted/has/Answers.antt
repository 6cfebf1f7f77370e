use Rattle.std.proofs.Common.{ap, ◌∙◌, sym}
use Rattle.std.specs.FinSet.{contains}
use Rattle.share_blocks.proofs.MarkLemmas.{contains-marked_set}
use Rattle.share_blocks.proofs.admitted.Admitted.has.Goals as goal

pub returns : goal.returns
returns c = sym (contains-marked_set c.self.inside.marks c.place_of-place.result c.args.tag c.place_of-place.ensures.place) ∙ ap (λ s. contains s c.args.tag) c.self.view_is
