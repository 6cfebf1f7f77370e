use Rattle.std.proofs.Common.{length, ap, arith}
use Rattle.share_blocks.specs.Covers.{pieces_after}
use Rattle.share_blocks.proofs.BoundLemmas.{length-pieces_more}
use Rattle.share_blocks.proofs.plain.PlainBlocksBlocks.cover.Goals as goal

pub returns-clause-bound : goal.returns-clause-bound
returns-clause-bound c = omega (arith, ap (λ covers. length (pieces_after covers)) c.in_ok-push.ensures.items, length-pieces_more c.args.self.now.covers.items (c.args.range, c.args.tag))
