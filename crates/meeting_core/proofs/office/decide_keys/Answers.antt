use Rattle.std.proofs.Common.{◌∙◌}
use Rattle.std.proofs.lemmas.Result.{IfOk-weaker}
use Rattle.desk_words.specs.Rulings.{ruled_answer}
use Rattle.desk_words.specs.declared.request.DeskRequest.TheVariants.{Keys}
use Rattle.office_decisions.specs.DeskRulings.{keys_ruling}
use Rattle.meeting_core.specs.Decisions.{desk_call}
use Rattle.meeting_core.proofs.ReadPreserved.{both_ok, decision_preserved}
use Rattle.meeting_core.proofs.office.decide_keys.Goals as goal

pub returns-clause-decided : goal.returns-clause-decided
returns-clause-decided c =
    IfOk-weaker c.load_keys.result _ _ (λ a is office now same. is ∙ (λ i. ruled_answer (keys_ruling (same i) c.args.rows.now))) c.load_keys.ensures.answer

pub returns-clause-valid : goal.returns-clause-valid
returns-clause-valid c =
    both_ok c.load_keys.result _ _ _
    (λ a is limits office preserved same. decision_preserved office (desk_call 0 (Keys c.args.rows.now)) a (is ∙ (λ i. ruled_answer (keys_ruling (same i) c.args.rows.now))) limits preserved)
    c.load_keys.ensures.answer c.load_keys.ensures.limits
