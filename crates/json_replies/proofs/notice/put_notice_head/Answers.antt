use Rattle.std.proofs.lemmas.Result.{on_ok_weaker}
use Rattle.serde_json.specs.Data.{string}
use Rattle.json_replies.proofs.WritingLemmas.{seen_as, then}
use Rattle.json_replies.proofs.notice.put_notice_head.Goals as goal

pub returns : goal.returns
returns c = on_ok_weaker c.put_text-2.result (λ rest. then c.in_ok-put_shown.ensures (then (seen_as string c.word.ensures c.in_ok-put_text.ensures) (then c.in_ok-put_shown-2.ensures (then c.in_ok-put_shown-3.ensures ((seen_as string c.word-2.ensures rest)))))) c.put_text-2.ensures
