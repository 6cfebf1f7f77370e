use Rattle.std.proofs.Common.{refl}
use Rattle.json_replies.proofs.WritingLemmas.{object_written, rises_if, then, then_if, token_written}
use Rattle.json_replies.proofs.notice.write_poll.Goals as goal

pub returns : goal.returns
returns c =
    let rest = then c.in_ok-put_or_null.ensures c.in_ok-put_shown.ensures in
    object_written (token_written c.in_ok-begin_object.ensures) (then c.in_ok-put_poll_head.ensures (then_if c.args.adjourned _ c.in_ok-put_number_if.ensures rest)) c.end_object.ensures (rises_if c.args.adjourned _ _ _ refl)
