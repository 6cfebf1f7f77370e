use Rattle.std.proofs.Common.{◌≡◌, ap, length, ◌∙◌, arith}
use Rattle.std.proofs.lemmas.List.{take_all}
use Rattle.std.specs.Prelude.{find}
use Rattle.share_blocks.specs.Covers.{pieces_after}
use Rattle.share_blocks.specs.Pieces.{begin_at, follow_from, ranges_of, tags_at}
use Rattle.share_blocks.proofs.BoundLemmas.{length-pieces_after}
use Rattle.share_blocks.proofs.BlockCoverLemmas.{begin_at-pieces_after, find-tags_at_place, follow_from-pieces_after, tags_at-place}
use Rattle.share_blocks.proofs.blocks.run.Goals as goal

-- when all ranges were covered
left : (g : _) (c : goal.After-loop-range g) → g.B.Blocks.pieces c.loop-range.blocks ≡ pieces_after c.args.covers.now
left g c = c.loop-range.invariant ∙ ap pieces_after (take_all c.loop-range.range-index c.args.covers.now c.loop-range-test.false)

pub returns-clause-tags : goal.returns-clause-tags
returns-clause-tags g c = λ place is. ap (λ pieces. tags_at pieces place) (left g c) ∙ tags_at-place c.args.covers.now place is

pub returns-clause-newest : goal.returns-clause-newest
returns-clause-newest g c = λ place test is. ap (λ pieces. find test (tags_at pieces place)) (left g c) ∙ find-tags_at_place test c.args.covers.now place is

pub returns-clause-in_order : goal.returns-clause-in_order
returns-clause-in_order g c = ap (λ pieces. follow_from 1 (ranges_of pieces)) (left g c) ∙ follow_from-pieces_after c.args.covers.now

pub returns-clause-cuts : goal.returns-clause-cuts
returns-clause-cuts g c = λ place low high. ap (λ pieces. begin_at (ranges_of pieces) place) (left g c) ∙ begin_at-pieces_after c.args.covers.now place low high

pub returns-clause-bound : goal.returns-clause-bound
returns-clause-bound g c = omega (arith, ap length (left g c), length-pieces_after c.args.covers.now)
