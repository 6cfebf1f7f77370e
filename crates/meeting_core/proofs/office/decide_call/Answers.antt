use Rattle.std.proofs.Common.{◌∙◌}
use Rattle.std.proofs.lemmas.Result.{IfOk-weaker}
use Rattle.desk_words.specs.Rulings.{ruled_answer}
use Rattle.desk_words.specs.declared.request.DeskRequest.TheVariants.{CallMeeting}
use Rattle.office_decisions.specs.CallRulings.{ruling_of_call}
use Rattle.meeting_core.specs.Decisions.{desk_call}
use Rattle.meeting_core.proofs.ReadPreserved.{both_ok, decision_preserved}
use Rattle.meeting_core.proofs.office.decide_call.Goals as goal

pub returns-clause-decided : goal.returns-clause-decided
returns-clause-decided c =
    IfOk-weaker c.call_meeting.result _ _ (λ a is office now known. is ∙ (λ i. ruled_answer (ruling_of_call (known.named i) (known.held i) c.args.new.now))) c.call_meeting.ensures.answer

pub returns-clause-valid : goal.returns-clause-valid
returns-clause-valid c =
    both_ok c.call_meeting.result _ _ _
    (λ a is limits office preserved known. decision_preserved office (desk_call 0 (CallMeeting c.args.new.now)) a (is ∙ (λ i. ruled_answer (ruling_of_call (known.named i) (known.held i) c.args.new.now))) limits preserved)
    c.call_meeting.ensures.answer c.call_meeting.ensures.limits
