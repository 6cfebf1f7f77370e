use Rattle.std.proofs.Common.{◌∙◌}
use Rattle.std.proofs.lemmas.Result.{IfOk-weaker}
use Rattle.desk_words.specs.Rulings.{ruled_answer}
use Rattle.desk_words.specs.declared.request.DeskRequest.TheVariants.{ClosedDays}
use Rattle.office_decisions.specs.DeskRulings.{closed_ruling}
use Rattle.meeting_core.specs.Decisions.{desk_call}
use Rattle.meeting_core.proofs.ReadPreserved.{both_ok, decision_preserved}
use Rattle.meeting_core.proofs.office.decide_closed.Goals as goal

pub returns-clause-decided : goal.returns-clause-decided
returns-clause-decided c =
    IfOk-weaker c.load_days.result _ _ (λ a is office now same. is ∙ (λ i. ruled_answer (closed_ruling (same i) c.args.days.now))) c.load_days.ensures.answer

pub returns-clause-valid : goal.returns-clause-valid
returns-clause-valid c =
    both_ok c.load_days.result _ _ _
    (λ a is limits office preserved same. decision_preserved office (desk_call 0 (ClosedDays c.args.days.now)) a (is ∙ (λ i. ruled_answer (closed_ruling (same i) c.args.days.now))) limits preserved)
    c.load_days.ensures.answer c.load_days.ensures.limits
