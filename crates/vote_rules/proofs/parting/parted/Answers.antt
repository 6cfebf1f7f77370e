use Rattle.std.proofs.Common.{◌≡◌, true, ap, ◌∙◌}
use Rattle.std.specs.Prelude.{All}
use Rattle.std.specs.List.{filter_map}
use Rattle.std.proofs.lemmas.List.Elements.{All-same}
use Rattle.std.proofs.lemmas.Result.{IfOk-weaker}
use Rattle.proxy_rules.specs.Tagging.{held_of}
use Rattle.proxy_rules.specs.Tiles.{are_tiled}
use Rattle.proxy_rules.proofs.TileLemmas.{tiled-held}
use Rattle.share_blocks.specs.Pieces.{ranges_of}
use Rattle.share_blocks.specs.Covers.{pieces_after}
use Rattle.share_blocks.proofs.BlockCoverLemmas.{follow_from-pieces_after}
use Rattle.vote_rules.specs.Ballots.{IsUncut, cuts_of}
use Rattle.vote_rules.proofs.PartingLemmas.{held_are_uncut, pieces_are_uncut}
use Rattle.vote_rules.proofs.parting.parted.Goals as goal

pub returns-clause-tiled : goal.returns-clause-tiled
returns-clause-tiled g c =
    let shares = c.args.shares in
    let cuts = c.as_slice.result.now in
    let ranges = ranges_of (pieces_after cuts) in
    IfOk-weaker c.held_of_each.result
    (λ parts. parts.items ≡ filter_map (held_of shares) c.as_slice-2.result.now)
    (λ parts. are_tiled 1 parts.items shares ≡ true)
    (λ parts is.
    ap (λ l. are_tiled 1 l shares) (is ∙ ap (filter_map (held_of shares)) (c.as_slice-2.ensures.value ∙ c.in_ok-ranges.ensures.ranges ∙ ap ranges_of c.in_ok-blocks.ensures.pieces))
    ∙ tiled-held shares ranges c.requires (follow_from-pieces_after cuts))
    c.held_of_each.ensures

pub returns-clause-uncut : goal.returns-clause-uncut
returns-clause-uncut g c =
    let shares = c.args.shares in
    let cuts = cuts_of c.args.governed.now c.args.casts.now in
    let ranges = ranges_of (pieces_after cuts) in
    IfOk-weaker c.held_of_each.result
    (λ parts. parts.items ≡ filter_map (held_of shares) c.as_slice-2.result.now)
    (λ parts. All (IsUncut cuts) parts.items)
    (λ parts is.
    All-same (IsUncut cuts) parts.items (filter_map (held_of shares) ranges)
    (is
    ∙ ap (filter_map (held_of shares))
    (c.as_slice-2.ensures.value
    ∙ c.in_ok-ranges.ensures.ranges
    ∙ ap ranges_of (c.in_ok-blocks.ensures.pieces ∙ ap pieces_after (c.as_slice.ensures.value ∙ c.in_ok-cuts.ensures))))
    (held_are_uncut cuts shares ranges (pieces_are_uncut cuts)))
    c.held_of_each.ensures
