use Rattle.std.proofs.Common.{◌≡◌, true, Ok, Err, Result, IfOk, IsTrue, subst, ap, sym, ◌∙◌}
use Rattle.std.specs.declared.alloc.AllocError.{AllocError}
use Rattle.desk_words.specs.declared.office.OfficeLists.{OfficeLists}
use Rattle.desk_words.specs.declared.request.Call.{Call}
use Rattle.desk_words.specs.Office.{is_office}
use Rattle.desk_words.specs.declared.answer.Answer.{Answer}
use Rattle.desk_words.specs.declared.change.Change.{Change}
use Rattle.desk_words.specs.Changes.{applied_if_any}
use Rattle.office_decisions.specs.RequestLimits.{if_any, keeps_limits}
use Rattle.meeting_core.specs.Step.{decided}
use Rattle.meeting_core.proofs.OfficePreserved.{step_preserved}
use Rattle.meeting_core.proofs.book.Book.decision.Goals as goal

-- a decision keeps the lists of an office, by the law of the step
preserved : (office : OfficeLists) (call : Call) → is_office office ≡ true → (r : Result (Answer Change) AllocError)
    → IfOk r (λ a. a ≡ decided office call) → IfOk r (λ a. if_any keeps_limits a.change ≡ true) → IfOk r (λ a. IsTrue (is_office (applied_if_any office a.change)))
preserved office call held (Ok a) decision limits =
    ap (λ (a : Answer Change). is_office (applied_if_any office a.change)) decision
    ∙ step_preserved office call.moment call.caller call.request held (ap (λ (a : Answer Change). if_any keeps_limits a.change) (sym decision) ∙ limits)
preserved office call held (Err e) decision limits = tt

pub returns-clause-valid : goal.returns-clause-valid
returns-clause-valid c = preserved c.args.self.now c.args.call.now (subst (λ (x : OfficeLists). is_office x ≡ true) c.self.view_is c.self.invariant) c.answer_to.result c.answer_to.ensures.answer c.answer_to.ensures.limits
