use Rattle.std.proofs.Common.{length, refl}
use Rattle.json_replies.specs.Forms.{is_adjourned, decimal_data}
use Rattle.json_replies.specs.ReplyMembers.{governed_list}
use Rattle.json_replies.proofs.WritingLemmas.{members_as, object_written, rises_if, seen_as, then, then_if, token_written}
use Rattle.json_replies.proofs.received.ReceivedShown.write.Goals as goal

pub returns : goal.returns
returns c =
    let adjourned = is_adjourned (length c.args.self.now.sessions) in
    let to = seen_as decimal_data c.to.ensures.value c.in_ok-put_number.ensures in
    let sessions = members_as governed_list c.as_slice.ensures c.in_ok-put_governed.ensures in
    object_written (token_written c.in_ok-begin_object.ensures) (then c.in_ok-put_received_head.ensures (then_if adjourned _ sessions to)) c.end_object.ensures (rises_if adjourned _ _ _ refl)
