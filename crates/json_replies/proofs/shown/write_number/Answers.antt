use Rattle.std.proofs.Common.{arith}
use Rattle.json_replies.proofs.WritingLemmas.{number_written}
use Rattle.json_replies.proofs.shown.write_number.Goals as goal

pub returns : goal.returns
returns c = number_written (omega arith) c.u64.ensures
