use Rattle.json_replies.specs.Forms.{decimal_data}
use Rattle.json_replies.proofs.WritingLemmas.{list_written, none_yet, one_more, value_as}
use Rattle.json_replies.proofs.received.RangeShown.write.Goals as goal

pub returns : goal.returns
returns c =
    let from = value_as decimal_data c.from.ensures.value c.in_ok-write_number.ensures in
    let to = value_as decimal_data c.to.ensures.value c.in_ok-write_number-2.ensures in
    list_written (one_more (one_more (none_yet c.in_ok-begin_array.ensures) from) to) c.end_array.ensures
