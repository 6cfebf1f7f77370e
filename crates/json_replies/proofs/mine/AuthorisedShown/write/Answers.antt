use Rattle.std.proofs.Common.{refl}
use Rattle.serde_json.specs.Data.{string}
use Rattle.json_replies.proofs.WritingLemmas.{object_written, seen_as, then, token_written}
use Rattle.json_replies.proofs.mine.AuthorisedShown.write.Goals as goal

pub returns : goal.returns
returns c = object_written (token_written c.in_ok-begin_object.ensures) (then (seen_as string c.as_str.ensures.value c.in_ok-put_text.ensures) c.in_ok-put_number.ensures) c.end_object.ensures refl
