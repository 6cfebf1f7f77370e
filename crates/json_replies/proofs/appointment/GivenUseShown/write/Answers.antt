use Rattle.std.proofs.Common.{refl}
use Rattle.serde_json.specs.Data.{string}
use Rattle.json_replies.specs.Forms.{decimal_data}
use Rattle.json_replies.proofs.WritingLemmas.{object_written, seen_as, then, token_written}
use Rattle.json_replies.proofs.appointment.GivenUseShown.write.Goals as goal

pub returns : goal.returns
returns c = object_written (token_written c.in_ok-begin_object.ensures) (then c.in_ok-put_given_head.ensures (then (seen_as string c.as_str.ensures.value c.in_ok-put_text.ensures) (then c.in_ok-put_shown.ensures (then (seen_as decimal_data c.to.ensures.value c.in_ok-put_number.ensures) ((seen_as string c.use_word.ensures c.in_ok-put_text-2.ensures)))))) c.end_object.ensures refl
