use Rattle.std.proofs.Common.{map, subst, arith}
use Rattle.std.proofs.lemmas.List.{take_all}
use Rattle.json_replies.specs.NoticeJson.{noticed_resolution_data}
use Rattle.json_replies.proofs.WritingLemmas.{WritesFirst, list_written, next_written, none_yet}
use Rattle.json_replies.proofs.notice.write_resolutions.Goals as goal

pub loop-resolution-init : goal.loop-resolution-init
loop-resolution-init c = none_yet c.in_ok-begin_array.ensures

pub loop-resolution-preserved : goal.loop-resolution-preserved
loop-resolution-preserved c =
    next_written (noticed_resolution_data c.args.adjourned) c.args.resolutions.now c.loop-resolution.resolution-index c.resolution-item.result c.loop-resolution-test.true c.resolution-item.is c.loop-resolution.invariant c.in_ok-write_resolution.ensures

pub returns : goal.returns
returns c =
    let all = take_all c.loop-resolution.resolution-index c.args.resolutions.now (omega arith) in
    list_written (subst (λ xs. WritesFirst (map (noticed_resolution_data c.args.adjourned) xs) c.args.out.now c.loop-resolution.out) all c.loop-resolution.invariant) c.end_array.ensures
