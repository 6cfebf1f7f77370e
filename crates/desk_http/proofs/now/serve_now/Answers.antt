use Rattle.std.proofs.Common.{rules}
use Rattle.desk_http.proofs.now.serve_now.Goals as goal

pub returns-in-Ok-reply_to : goal.returns-in-Ok-reply_to
returns-in-Ok-reply_to g c = search rules

pub returns-in-Err : goal.returns-in-Err
returns-in-Err g c = search rules

pub returns-in_default : goal.returns-in_default
returns-in_default g c = search rules
