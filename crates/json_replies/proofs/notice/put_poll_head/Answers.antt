use Rattle.std.proofs.lemmas.Result.{on_ok_weaker}
use Rattle.json_replies.proofs.WritingLemmas.{then}
use Rattle.json_replies.proofs.notice.put_poll_head.Goals as goal

pub returns : goal.returns
returns c = on_ok_weaker c.put_or_null-2.result (λ rest. then c.in_ok-put_truth.ensures (then c.in_ok-put_or_null.ensures (then c.in_ok-put_shown.ensures (then c.in_ok-put_truth-2.ensures (then c.in_ok-put_shown-2.ensures rest))))) c.put_or_null-2.ensures
