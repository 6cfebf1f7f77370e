use Rattle.std.proofs.Common.{map, subst, arith}
use Rattle.std.proofs.lemmas.List.{take_all}
use Rattle.json_replies.proofs.WritingLemmas.{WritesFirst, list_written, next_written, none_yet}
use Rattle.json_replies.proofs.shown.write_list.Goals as goal

pub loop-item-init : goal.loop-item-init
loop-item-init g c = none_yet c.in_ok-begin_array.ensures

pub loop-item-preserved : goal.loop-item-preserved
loop-item-preserved g c =
    next_written g.T.Shown.shown c.args.items.now c.loop-item.item-index c.item-item.result c.loop-item-test.true c.item-item.is c.loop-item.invariant c.in_ok-write.ensures

pub returns : goal.returns
returns g c =
    let all = take_all c.loop-item.item-index c.args.items.now (omega arith) in
    list_written (subst (λ xs. WritesFirst (map g.T.Shown.shown xs) c.args.out.now c.loop-item.out) all c.loop-item.invariant) c.end_array.ensures
