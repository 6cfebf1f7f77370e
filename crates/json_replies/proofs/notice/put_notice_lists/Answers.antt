use Rattle.std.proofs.Common.{[], ◌∷◌, codes}
use Rattle.std.proofs.lemmas.Result.{on_ok_weaker}
use Rattle.json_replies.specs.Forms.{array_of}
use Rattle.json_replies.specs.NoticeJson.{noticed_resolution_data}
use Rattle.json_replies.specs.ReplyMembers.{sessions_list}
use Rattle.json_replies.proofs.WritingLemmas.{member_written, members_as, seen_as, then, token_written}
use Rattle.json_replies.proofs.notice.put_notice_lists.Goals as goal

pub returns : goal.returns
returns c =
    let n = c.args.notice.now in
    let held = c.as_slice.result.now in
    let written = member_written (token_written c.in_ok-key.ensures) c.in_ok-write_resolutions.ensures in
    let listed = members_as (λ adjourned. (codes "resolutions", array_of (noticed_resolution_data adjourned) held) ∷ []) c.has_later-adjourned.ensures written in
    let resolutions = seen_as (array_of _) c.as_slice.ensures listed in
    on_ok_weaker c.put_sessions.result (λ w. then resolutions (members_as (λ adjourned. sessions_list adjourned n) c.has_later-adjourned.ensures w)) c.put_sessions.ensures
