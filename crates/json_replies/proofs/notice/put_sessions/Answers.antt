use Rattle.std.proofs.Common.{sym}
use Rattle.std.proofs.lemmas.Result.{on_ok_weaker}
use Rattle.json_replies.specs.ReplyMembers.{sessions_list}
use Rattle.json_replies.proofs.WritingLemmas.{member_written, members_as, token_written}
use Rattle.json_replies.proofs.notice.put_sessions.Goals as goal

pub returns-in_ok-key : goal.returns-in_ok-key
returns-in_ok-key c =
    on_ok_weaker c.write_sessions.result (λ w. members_as (λ holds. sessions_list holds c.args.notice.now) (sym c.if-adjourned.true) (member_written (token_written c.in_ok-key.ensures) w)) c.write_sessions.ensures
