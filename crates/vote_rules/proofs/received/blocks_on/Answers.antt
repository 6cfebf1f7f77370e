use Rattle.std.proofs.Common.{◌≡◌, ◌+◌, List, [], ◌∷◌, ◌++◌, Vec, Global, take, ap, sym, ◌∙◌}
use Rattle.std.specs.List.{cons_option, filter_map}
use Rattle.std.proofs.lemmas.List.{append-nil}
use Rattle.std.proofs.lemmas.List.Elements.{filter_map-append}
use Rattle.std.specs.List.{enumerate_from}
use Rattle.vote_rules.specs.InstructedCasts.{block_on, blocks_on}
use Rattle.vote_rules.specs.declared.received.BlockCast.{BlockCast}
use Rattle.vote_rules.proofs.VoteListLemmas.{enumerate_more}
use Rattle.vote_rules.proofs.received.blocks_on.Goals as goal
use Rattle.vote_rules.proofs.received.blocks_on.Goals.{in-Some+in_ok-push, in_default}

pub loop-order-preserved : goal.loop-order-preserved
loop-order-preserved c =
    let casts = c.args.casts.now in
    let resolution = c.args.resolution in
    let i = c.loop-order.order in
    let mark = c.index-casts-order.result in
    let items : Vec BlockCast Global → List BlockCast = λ blocks. blocks.items in
    let so_far = blocks_on resolution (take i casts) in
    let more : blocks_on resolution (take (i + 1) casts) ≡ so_far ++ cons_option (block_on resolution (i, mark)) [] =
    ap (filter_map (block_on resolution)) (enumerate_more casts i mark c.loop-order-test.true c.index-casts-order.is)
    ∙ filter_map-append (block_on resolution) (enumerate_from 0 (take i casts)) ((i, mark) ∷ []) in
    elim c.match-block_on.branch [
      | in-Some+in_ok-push w ↦
          ap items w.blocks-is
          ∙ w.in_ok-push.ensures.items
          ∙ ap (λ blocks. blocks ++ w.in-Some.block ∷ []) c.loop-order.invariant
          ∙ ap (λ o. so_far ++ cons_option o []) w.in-Some.ensures
          ∙ sym more
      | in_default w ↦
          ap items w.blocks-is
          ∙ c.loop-order.invariant
          ∙ sym (append-nil so_far)
          ∙ ap (λ o. so_far ++ cons_option o []) w.in_default.ensures
          ∙ sym more
    ]
