use Rattle.std.proofs.Common.{◌≡◌, true, false, ap, ◌∙◌, rules}
use Rattle.office_decisions.specs.RequestLimits.{if_any}
use Rattle.meeting_core.proofs.StepLaws.{at_once_quiet, sets_alone}
use Rattle.desk_words.specs.Changes.{sets_fields}
use Rattle.desk_words.specs.declared.answer.Answer.{Answer}
use Rattle.desk_words.specs.declared.change.Change.{Change}
use Rattle.meeting_core.proofs.book.Book.perform.Goals as goal

-- what needs no memory has no change that memory could be refused to
pub returns-in_err-apply_if_any-clause-sure : goal.returns-in_err-apply_if_any-clause-sure
returns-in_err-apply_if_any-clause-sure g c = λ needless.
    let call = c.args.call in
    let fields : if_any sets_fields c.in_ok-answer.answer.change ≡ true =
    ap (λ (a : Answer Change). if_any sets_fields a.change) c.in_ok-answer.ensures.answer ∙ sets_alone c.args.self.now call.moment call.caller call.request needless in
    let never : false ≡ true = c.in_err-apply_if_any.ensures.sure fields in
    absurd (cc)

-- what is refused at once has no change at all
pub returns-in_err-apply_if_any-clause-refusals : goal.returns-in_err-apply_if_any-clause-refusals
returns-in_err-apply_if_any-clause-refusals g c = λ refused.
    let fields : if_any sets_fields c.in_ok-answer.answer.change ≡ true =
    ap (if_any sets_fields) (ap (λ (a : Answer Change). a.change) c.in_ok-answer.ensures.answer ∙ at_once_quiet c.args.self.now c.args.call refused) in
    let never : false ≡ true = c.in_err-apply_if_any.ensures.sure fields in
    absurd (cc)

pub returns-in_err-shown-clause-same : goal.returns-in_err-shown-clause-same
returns-in_err-shown-clause-same g c = search rules
