use Rattle.std.proofs.Common.{◌≡◌, ap, sym, ◌∙◌}
use Rattle.std.proofs.lemmas.Result.{IfOk-weaker}
use Rattle.share_blocks.specs.Cuts.{ranges_between, rise_from}
use Rattle.share_blocks.specs.Pieces.{follow_from, ranges_of}
use Rattle.share_blocks.proofs.BlockCoverLemmas.{alike}
use Rattle.share_blocks.proofs.LinkLemmas.{follow_from-linked, ranges-linked, rise-linked}
use Rattle.share_blocks.proofs.linked.LinkedBlocksBlocks.pieces.Goals as goal

pub returns-in_err-cuts-clause-in_order : goal.returns-in_err-cuts-clause-in_order
returns-in_err-cuts-clause-in_order c = ap (λ ps. follow_from 1 (ranges_of ps)) (sym c.self.view_is) ∙ follow_from-linked c.self.inside.newest.entries c.self.inside.nodes.items c.self.invariant

pub returns-in_err-cuts-clause-alike : goal.returns-in_err-cuts-clause-alike
returns-in_err-cuts-clause-alike c = alike c.args.self.now (ap (λ ps. follow_from 1 (ranges_of ps)) (sym c.self.view_is) ∙ follow_from-linked c.self.inside.newest.entries c.self.inside.nodes.items c.self.invariant)

pub parted_at-requires : goal.parted_at-requires
parted_at-requires c = ap (rise_from 1) (c.as_slice.ensures.value ∙ c.in_ok-cuts.ensures) ∙ rise-linked c.self.inside.newest.entries c.self.inside.nodes.items c.self.invariant

pub returns-clause-ranges : goal.returns-clause-ranges
returns-clause-ranges c =
    IfOk-weaker c.parted_at.result
    (λ ranges. ranges.items ≡ ranges_between 1 c.as_slice.result.now)
    (λ ranges. ranges.items ≡ ranges_of c.args.self.now)
    (λ ranges is.
    is ∙ ap (ranges_between 1) (c.as_slice.ensures.value ∙ c.in_ok-cuts.ensures)
    ∙ ranges-linked c.self.inside.newest.entries c.self.inside.nodes.items c.self.invariant ∙ ap ranges_of c.self.view_is)
    c.parted_at.ensures

pub returns-clause-in_order : goal.returns-clause-in_order
returns-clause-in_order c = ap (λ ps. follow_from 1 (ranges_of ps)) (sym c.self.view_is) ∙ follow_from-linked c.self.inside.newest.entries c.self.inside.nodes.items c.self.invariant

pub returns-clause-alike : goal.returns-clause-alike
returns-clause-alike c = alike c.args.self.now (ap (λ ps. follow_from 1 (ranges_of ps)) (sym c.self.view_is) ∙ follow_from-linked c.self.inside.newest.entries c.self.inside.nodes.items c.self.invariant)
