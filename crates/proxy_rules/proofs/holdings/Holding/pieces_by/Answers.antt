use Rattle.std.proofs.Common.{◌≡◌, List, ap, subst, sym, ◌∙◌}
use Rattle.std.specs.FinSet.{contains}
use Rattle.std.specs.List.{filter_map, list_any}
use Rattle.std.proofs.lemmas.Result.{IfOk-weaker}
use Rattle.proxy_rules.specs.Governing.{ends}
use Rattle.proxy_rules.specs.Tagging.{covers_by, piece_over}
use Rattle.proxy_rules.specs.Tiles.{ArePieces}
use Rattle.proxy_rules.specs.declared.pieces.GovernedPiece.{GovernedPiece}
use Rattle.proxy_rules.proofs.GoverningLemmas.{are_pieces}
use Rattle.share_blocks.proofs.BlockCoverLemmas.{alike}
use Rattle.share_blocks.specs.Covers.{newest_of}
use Rattle.share_blocks.specs.Pieces.{ranges_of}
use Rattle.proxy_rules.proofs.holdings.Holding.pieces_by.Goals as goal

pub returns : goal.returns
returns g c =
    let cutoffs = c.args.cutoffs.now in
    let holding = c.args.self.now in
    let admitted = contains c.all.result in
    let has_ended = contains c.ended_numbers-ended.result in
    let pieces = g.B.Blocks.pieces c.in_ok-blocks.blocks in
    let covers = c.as_slice-2.ensures.value ∙ c.in_ok-covers.ensures ∙ ap (covers_by cutoffs) c.as_slice.ensures in
    let in_order = c.in_ok-blocks.ensures.in_order in
    let are = are_pieces admitted has_ended c.all.ensures cutoffs holding c.requires
    (λ tag is. c.ended_numbers-ended.ensures tag is ∙ ap (list_any (ends cutoffs tag)) c.as_slice-3.ensures)
    pieces (λ place is. c.in_ok-blocks.ensures.newest place admitted is ∙ ap (λ all. newest_of admitted all place) covers)
    (ranges_of pieces) in_order (alike pieces in_order) in
    IfOk-weaker c.pieces_of.result
    (λ found. found.items ≡ filter_map (piece_over admitted has_ended pieces holding.shares) (ranges_of pieces))
    (λ found. ArePieces cutoffs holding found.items)
    (λ found same. subst (λ (items : List GovernedPiece). ArePieces cutoffs holding items) (sym same) are)
    c.pieces_of.ensures
