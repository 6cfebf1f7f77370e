use Rattle.std.proofs.Common.{◌≡◌, true, false, ap, ◌∙◌}
use Rattle.office_decisions.specs.RequestLimits.{if_any}
use Rattle.meeting_core.proofs.StepLaws.{at_once_quiet, sets_alone}
use Rattle.desk_words.specs.Changes.{sets_fields}
use Rattle.meeting_core.proofs.book.Book.step.Goals as goal

-- what needs no memory has no change that memory could be refused to
pub returns-in_err-apply_if_any-clause-sure : goal.returns-in_err-apply_if_any-clause-sure
returns-in_err-apply_if_any-clause-sure c = λ needless.
    let call = c.args.call in
    let fields : if_any sets_fields c.in_ok-reply.change ≡ true =
    ap (if_any sets_fields) c.in_ok-reply.ensures.change ∙ sets_alone c.args.self.now call.moment call.caller call.request needless in
    let never : false ≡ true = c.in_err-apply_if_any.ensures.sure fields in
    absurd (cc)

-- what is refused at once has no change at all
pub returns-in_err-apply_if_any-clause-refusals : goal.returns-in_err-apply_if_any-clause-refusals
returns-in_err-apply_if_any-clause-refusals c = λ refused.
    let fields : if_any sets_fields c.in_ok-reply.change ≡ true =
    ap (if_any sets_fields) (c.in_ok-reply.ensures.change ∙ at_once_quiet c.args.self.now c.args.call refused) in
    let never : false ≡ true = c.in_err-apply_if_any.ensures.sure fields in
    absurd (cc)
