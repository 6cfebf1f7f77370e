use Rattle.std.proofs.lemmas.Result.{on_ok_weaker}
use Rattle.json_replies.proofs.WritingLemmas.{member_written, token_written}
use Rattle.json_replies.proofs.shown.put_list.Goals as goal

pub returns : goal.returns
returns g c = on_ok_weaker c.write_list.result (member_written (token_written c.in_ok-key.ensures)) c.write_list.ensures
