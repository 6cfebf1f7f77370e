use Rattle.serde_json.proofs.OnLiterals.{serde_json_on_literals}
use Rattle.json_replies.proofs.reply.fixed_text.Goals as goal

pub returns-in-Noted : goal.returns-in-Noted
unfolding serde_json_on_literals
returns-in-Noted c = rw c.in-Noted.is

pub returns-in-Recorded : goal.returns-in-Recorded
unfolding serde_json_on_literals
returns-in-Recorded c = rw c.in-Recorded.is
