use Rattle.share_blocks.specs.Covers.{pieces_after}
use Rattle.share_blocks.proofs.BlockCoverLemmas.{follow_from-pieces_after, alike}
use Rattle.share_blocks.proofs.plain.PlainBlocksBlocks.pieces.Goals as goal

pub returns-clause-in_order : goal.returns-clause-in_order
returns-clause-in_order c = follow_from-pieces_after c.args.self.now.covers.items

pub returns-clause-alike : goal.returns-clause-alike
returns-clause-alike c = alike (pieces_after c.args.self.now.covers.items) (follow_from-pieces_after c.args.self.now.covers.items)
