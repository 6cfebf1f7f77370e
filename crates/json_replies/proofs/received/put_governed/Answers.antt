use Rattle.std.proofs.Common.{◌≡◌, ◌∙◌, ℕ, Bool, true, List, [], codes, length, sym}
use Rattle.std.proofs.lemmas.Result.{on_ok_weaker}
use Rattle.serde_json.specs.Data.{Data}
use Rattle.json_replies.specs.AppointmentJson.{session_governed_data}
use Rattle.json_replies.specs.Forms.{numbered_array, is_adjourned, only_if}
use Rattle.json_replies.proofs.WritingLemmas.{member_written, members_as, token_written}
use Rattle.json_replies.proofs.received.put_governed.Goals as goal

pub returns-in_ok-key : goal.returns-in_ok-key
returns-in_ok-key c =
    let list : Bool → List (List ℕ × Data) = λ holds. only_if holds (codes "sessions", numbered_array session_governed_data c.args.sessions.now) [] in
    let holds : true ≡ is_adjourned (length c.args.sessions.now) = sym c.if-is_adjourned.true ∙ c.is_adjourned.ensures in
    on_ok_weaker c.write_governed.result (λ w. members_as list holds (member_written (token_written c.in_ok-key.ensures) w)) c.write_governed.ensures
