use Rattle.json_replies.specs.Forms.{numbered_values}
use Rattle.json_replies.specs.NoticeJson.{noticed_session_data}
use Rattle.json_replies.proofs.WritingLemmas.{list_written, none_yet, one_more, then_each, values_as}
use Rattle.json_replies.proofs.notice.write_sessions.Goals as goal

pub returns : goal.returns
returns c =
    let later = values_as (numbered_values noticed_session_data 2) c.as_slice.ensures c.in_ok-write_each.ensures in
    list_written (then_each (one_more (none_yet c.in_ok-begin_array.ensures) c.in_ok-write_as.ensures) later) c.end_array.ensures
