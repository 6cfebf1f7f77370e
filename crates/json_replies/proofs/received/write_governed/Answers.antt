use Rattle.json_replies.proofs.WritingLemmas.{list_written, none_yet, then_each}
use Rattle.json_replies.proofs.received.write_governed.Goals as goal

pub returns : goal.returns
returns c = list_written (then_each (none_yet c.in_ok-begin_array.ensures) c.in_ok-write_each.ensures) c.end_array.ensures
