use Rattle.std.proofs.Common.{◌∙◌, refl}
use Rattle.serde_json.specs.Data.{string}
use Rattle.json_replies.specs.Forms.{decimal_data}
use Rattle.json_replies.proofs.WritingLemmas.{object_written, seen_as, then, token_written}
use Rattle.json_replies.proofs.reply.write_refusal.Goals as goal

pub returns : goal.returns
returns c =
    let code = seen_as decimal_data (c.from.ensures ∙ c.number.ensures) c.in_ok-put_number.ensures in
    let name = seen_as string c.name.ensures c.in_ok-put_text.ensures in
    object_written (token_written c.in_ok-begin_object.ensures) (then code name) c.end_object.ensures refl
