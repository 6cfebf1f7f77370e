use Rattle.serde_json.proofs.OnLiterals.{serde_json_on_literals}
use Rattle.json_replies.proofs.failure.failure_text.Goals as goal

pub returns-in-Store : goal.returns-in-Store
unfolding serde_json_on_literals
returns-in-Store c = rw c.in-Store.is

pub returns-in-Memory : goal.returns-in-Memory
unfolding serde_json_on_literals
returns-in-Memory c = rw c.in-Memory.is
