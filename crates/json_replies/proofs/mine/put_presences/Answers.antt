use Rattle.std.proofs.lemmas.Result.{on_ok_weaker}
use Rattle.json_replies.proofs.WritingLemmas.{member_written, token_written}
use Rattle.json_replies.proofs.mine.put_presences.Goals as goal

pub returns : goal.returns
returns c = on_ok_weaker c.write_presences.result (member_written (token_written c.in_ok-key.ensures)) c.write_presences.ensures
