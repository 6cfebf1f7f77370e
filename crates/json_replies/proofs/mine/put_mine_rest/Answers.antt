use Rattle.std.proofs.Common.{[], codes}
use Rattle.std.proofs.lemmas.Result.{on_ok_weaker}
use Rattle.serde_json.specs.Data.{boolean}
use Rattle.json_replies.specs.AppointmentJson.{received_data}
use Rattle.json_replies.specs.Replies.{sessions_present}
use Rattle.json_replies.specs.Forms.{is_adjourned, array_of, only_if, decimal_data}
use Rattle.json_replies.proofs.WritingLemmas.{members_as, seen_as, then, then_if}
use Rattle.json_replies.proofs.mine.put_mine_rest.Goals as goal

pub returns : goal.returns
returns c =
    let adjourned = is_adjourned c.args.mine.now.session in
    let presences = members_as (λ holds. only_if holds (codes "presences", array_of decimal_data (sessions_present c.args.mine.now)) []) c.is_adjourned.ensures c.in_ok-put_presences_if.ensures in
    let present = seen_as boolean c.is_present_in.ensures c.in_ok-put_truth.ensures in
    let received = seen_as (array_of received_data) c.as_slice.ensures c.in_ok-put_list.ensures in
    on_ok_weaker c.put_or_null.result (λ rest. then_if adjourned _ presences (then present (then received rest))) c.put_or_null.ensures
