use Rattle.serde_json.specs.Data.{string}
use Rattle.std.proofs.Common.{refl}
use Rattle.json_replies.specs.Replies.{person_data}
use Rattle.json_replies.specs.Forms.{is_adjourned, array_of}
use Rattle.json_replies.proofs.WritingLemmas.{object_written, rises_if, seen_as, then, token_written}
use Rattle.json_replies.proofs.mine.write_mine.Goals as goal

pub returns : goal.returns
returns c = object_written (token_written c.in_ok-begin_object.ensures) (then c.in_ok-put_mine_head.ensures (then (seen_as string c.as_str.ensures.value c.in_ok-put_text.ensures) (then c.in_ok-put_text-2.ensures (then (seen_as (array_of person_data) c.as_slice.ensures c.in_ok-put_list.ensures) c.in_ok-put_mine_rest.ensures)))) c.end_object.ensures (rises_if (is_adjourned c.args.mine.now.session) _ _ _ refl)
