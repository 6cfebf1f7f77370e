use Rattle.std.proofs.Common.{◌≡◌, ◌+◌, ◌∷◌, ◌++◌, [], List, None, Some, map, take, ap, sym, ◌∙◌}
use Rattle.std.specs.Prelude.{Option}
use Rattle.std.specs.List.{filter_map}
use Rattle.std.proofs.lemmas.List.{map-append, take_more}
use Rattle.vocabulary.specs.declared.kinds.Way.{Way}
use Rattle.share_blocks.specs.Pieces.{Piece}
use Rattle.vote_rules.specs.VoteCovers.{way_at}
use Rattle.vote_rules.specs.Votes.{common_way}
use Rattle.vote_rules.proofs.CommonWays.{common-more, common-same}
use Rattle.vote_rules.proofs.ballots.common_way.Goals as goal
use Rattle.vote_rules.proofs.ballots.common_way.Goals.{in-Some, in_default}

pub loop-blocks-preserved : goal.loop-blocks-preserved
loop-blocks-preserved g c =
    let pieces = g.B.Blocks.pieces in
    let held = c.args.holders.now in
    let i = c.loop-blocks.blocks-index in
    let x = c.blocks-item.result in
    let cast : List Piece → Option Way = λ (all : List Piece). way_at None all c.args.place in
    let front = map pieces (take i held) in
    let more = take_more held i x c.loop-blocks-test.true ∙ ap (λ z. take i held ++ z ∷ []) (sym c.blocks-item.is) in
    let next : map pieces (take (i + 1) held) ≡ front ++ pieces x ∷ [] = ap (map pieces) more ∙ map-append pieces (take i held) (x ∷ []) in
    let over = λ (common : Option (Option Way)) (is : common ≡ common_way (filter_map cast (front ++ pieces x ∷ []))).
    is ∙ ap (λ all. common_way (filter_map cast all)) (sym next) in
    elim c.match-way_at.branch [
      | in-Some w ↦ over c.match-way_at.common
          (w.common-is
          ∙ ap Some w.joined_way.ensures
          ∙ common-more cast front (pieces x) w.in-Some.way c.loop-blocks.common (sym c.way_at.ensures ∙ w.in-Some.is) c.loop-blocks.invariant)
      | in_default w ↦ over c.match-way_at.common
          (w.common-is
          ∙ common-same cast front (pieces x) c.loop-blocks.common (sym c.way_at.ensures ∙ w.in_default.is) c.loop-blocks.invariant)
    ]
