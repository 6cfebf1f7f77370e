use Rattle.std.proofs.lemmas.Result.{on_ok_weaker}
use Rattle.json_replies.proofs.WritingLemmas.{member_written, text_written, token_written}
use Rattle.json_replies.proofs.shown.put_text.Goals as goal

pub returns : goal.returns
returns c = on_ok_weaker c.string.result (member_written (token_written c.in_ok-key.ensures)) (text_written c.string.ensures)
