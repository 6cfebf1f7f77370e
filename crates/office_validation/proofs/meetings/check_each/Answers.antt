use Rattle.std.proofs.Common.{ap, sym, ◌∙◌}
use Rattle.desk_words.specs.Office.{is_meeting}
use Rattle.office_validation.specs.Validation.{in_order}
use Rattle.office_validation.proofs.ValidMeetingLemmas.{ordered-end, ordered-step, ordered-wrong}
use Rattle.office_validation.proofs.meetings.check_each.Goals as goal

pub returns-then-not-check-clause-right : goal.returns-then-not-check-clause-right
returns-then-not-check-clause-right c =
    sym (ordered-wrong c.args.meetings.now c.loop-lists.meetings c.loop-lists.lists-index c.lists-item.result c.loop-lists.invariant.0 c.loop-lists-test.true c.lists-item.is (ap (λ m. is_meeting (in_order m)) c.lists-item.is ∙ sym c.check.ensures.right ∙ c.if-not-check.true))

pub loop-lists-preserved : goal.loop-lists-preserved
loop-lists-preserved c =
    ordered-step c.args.meetings.now c.loop-lists.meetings c.loop-lists.lists-index c.lists-item.result c.check.new.lists c.loop-lists.invariant.0 c.loop-lists-test.true c.lists-item.is
    (c.check.ensures.ordered c.if-not-check.false ∙ sym (ap in_order c.lists-item.is)) c.loop-lists.invariant.1 (ap (λ m. is_meeting (in_order m)) c.lists-item.is ∙ sym c.check.ensures.right ∙ c.if-not-check.false)

pub returns-clause-right : goal.returns-clause-right
returns-clause-right c = sym (ordered-end c.args.meetings.now c.loop-lists.meetings c.loop-lists.lists-index c.loop-lists.invariant.0 c.loop-lists-test.false c.loop-lists.invariant.1).1

pub returns-clause-ordered : goal.returns-clause-ordered
returns-clause-ordered c = λ _. (ordered-end c.args.meetings.now c.loop-lists.meetings c.loop-lists.lists-index c.loop-lists.invariant.0 c.loop-lists-test.false c.loop-lists.invariant.1).0
