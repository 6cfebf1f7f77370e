use Rattle.std.proofs.Common.{refl}
use Rattle.serde_json.specs.Data.{string}
use Rattle.json_replies.specs.NoticeJson.{has_later}
use Rattle.json_replies.proofs.WritingLemmas.{object_written, rises_if, seen_as, then, token_written}
use Rattle.json_replies.proofs.notice.write_notice.Goals as goal

pub returns : goal.returns
returns c = object_written (token_written c.in_ok-begin_object.ensures) (then c.in_ok-put_notice_head.ensures (then (seen_as string c.as_str.ensures.value c.in_ok-put_text.ensures) (then c.in_ok-put_text-2.ensures (then c.in_ok-put_or_null.ensures (then c.in_ok-put_shown.ensures (then c.in_ok-put_truth.ensures c.in_ok-put_notice_lists.ensures)))))) c.end_object.ensures (rises_if (has_later c.args.notice.now) _ _ _ refl)
