use Rattle.std.proofs.Common.{◌∙◌, ap}
use Rattle.std.proofs.lemmas.Result.{on_ok_weaker}
use Rattle.serde_json.specs.Data.{string}
use Rattle.json_replies.specs.AppointmentJson.{instruction_data, last_votes, poll_governed_data, run_data}
use Rattle.json_replies.specs.Forms.{array_of, decimal_data}
use Rattle.json_replies.proofs.WritingLemmas.{seen_as, then}
use Rattle.json_replies.proofs.received.put_received_head.Goals as goal

pub returns : goal.returns
returns c =
    let from = seen_as decimal_data c.from.ensures.value c.in_ok-put_number.ensures in
    let governs = seen_as (array_of run_data) (c.last_votes.ensures ∙ ap last_votes c.as_slice.ensures) c.in_ok-put_list.ensures in
    let instructions = seen_as (array_of instruction_data) c.as_slice-2.ensures.value c.in_ok-put_list-2.ensures in
    let member = seen_as string c.as_str.ensures.value c.in_ok-put_text.ensures in
    let polls = seen_as (array_of poll_governed_data) c.as_slice-3.ensures c.in_ok-put_list-3.ensures in
    on_ok_weaker c.put_shown.result (λ rest. then from (then governs (then instructions (then member (then polls rest))))) c.put_shown.ensures
