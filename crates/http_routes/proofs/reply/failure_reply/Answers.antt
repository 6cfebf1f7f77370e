use Rattle.std.specs.Fmt.{digits}
use Rattle.http_routes.specs.ReplyTexts.{phrase_of}
use Rattle.http_routes.proofs.reply.failure_reply.Goals as goal

pub returns-in-Store : goal.returns-in-Store
unfolding phrase_of digits
returns-in-Store c = rw c.in-Store.is

pub returns-in-Memory : goal.returns-in-Memory
unfolding phrase_of digits
returns-in-Memory c = rw c.in-Memory.is
