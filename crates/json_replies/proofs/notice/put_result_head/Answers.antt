use Rattle.std.proofs.lemmas.Result.{on_ok_weaker}
use Rattle.json_replies.proofs.WritingLemmas.{then}
use Rattle.json_replies.proofs.notice.put_result_head.Goals as goal

pub returns : goal.returns
returns c = on_ok_weaker c.put_number-3.result (λ rest. then c.in_ok-put_number.ensures (then c.in_ok-put_truth.ensures (then c.in_ok-put_number-2.ensures rest))) c.put_number-3.ensures
