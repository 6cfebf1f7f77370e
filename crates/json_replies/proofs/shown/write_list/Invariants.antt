use Rattle.std.proofs.Common.{take, map}
use Rattle.json_replies.proofs.WritingLemmas.{WritesFirst}
use Rattle.json_replies.proofs.shown.write_list.Given as goal

abbrev pub invariant-loop-item : goal.invariant-loop-item
invariant-loop-item g l = WritesFirst (map g.T.Shown.shown (take l.item-index l.items)) l.fn.out l.out
