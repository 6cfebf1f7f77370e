use Rattle.std.proofs.lemmas.Result.{on_ok_weaker}
use Rattle.json_replies.specs.AppointmentJson.{given_data}
use Rattle.json_replies.specs.Replies.{authorised_data, cast_data, demand_data}
use Rattle.json_replies.specs.Forms.{array_of}
use Rattle.json_replies.proofs.WritingLemmas.{seen_as, then}
use Rattle.json_replies.proofs.mine.put_mine_head.Goals as goal

pub returns : goal.returns
returns c = on_ok_weaker c.put_list-4.result (λ rest. then (seen_as (array_of authorised_data) c.as_slice.ensures c.in_ok-put_list.ensures) (then (seen_as (array_of cast_data) c.as_slice-2.ensures c.in_ok-put_list-2.ensures) (then (seen_as (array_of demand_data) c.as_slice-3.ensures c.in_ok-put_list-3.ensures) ((seen_as (array_of given_data) c.as_slice-4.ensures rest))))) c.put_list-4.ensures
