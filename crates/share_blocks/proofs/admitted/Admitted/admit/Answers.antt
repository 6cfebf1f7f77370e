use Rattle.std.proofs.Common.{ap, ◌∙◌, arith}
use Rattle.std.specs.FinSet.{insert}
use Rattle.share_blocks.proofs.MarkLemmas.{marked_set-set}
use Rattle.share_blocks.proofs.admitted.Admitted.admit.Goals as goal

pub returns : goal.returns
returns c = marked_set-set c.self.inside.marks c.place_of.result c.args.tag (omega (arith, c.self.told, c.place_of.ensures.bound)) c.place_of.ensures.place ∙ ap (λ s. insert s c.args.tag) c.self.view_is
