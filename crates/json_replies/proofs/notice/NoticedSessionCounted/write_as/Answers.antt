use Rattle.std.proofs.Common.{refl}
use Rattle.json_replies.proofs.WritingLemmas.{object_written, then, token_written}
use Rattle.json_replies.proofs.notice.NoticedSessionCounted.write_as.Goals as goal

pub returns : goal.returns
returns c = object_written (token_written c.in_ok-begin_object.ensures) (then c.in_ok-put_shown.ensures (then c.in_ok-put_shown-2.ensures (then c.in_ok-put_number.ensures c.in_ok-put_or_null.ensures))) c.end_object.ensures refl
