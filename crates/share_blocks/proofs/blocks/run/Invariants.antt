use Rattle.std.proofs.Common.{◌≡◌, take}
use Rattle.share_blocks.specs.Covers.{pieces_after}
use Rattle.share_blocks.proofs.blocks.run.Given as goal

-- the pieces are those that the ranges so far leave
abbrev pub invariant-loop-range : goal.invariant-loop-range
invariant-loop-range g l = g.B.Blocks.pieces l.blocks ≡ pieces_after (take l.range-index l.covers)
