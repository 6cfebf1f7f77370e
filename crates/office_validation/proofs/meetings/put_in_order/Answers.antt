use Rattle.std.proofs.Common.{ap, sym, ◌∙◌}
use Rattle.office_validation.proofs.ValidMeetingLemmas.{loaded-opened, loaded-none, loaded-some}
use Rattle.office_validation.specs.Validation.{rows_checked}
use Rattle.office_validation.proofs.meetings.put_in_order.Goals as goal

pub returns-then-not-is_loaded_once_opened-clause-right : goal.returns-then-not-is_loaded_once_opened-clause-right
returns-then-not-is_loaded_once_opened-clause-right c = sym (loaded-opened c.args.lists.now (sym c.is_loaded_once_opened.ensures ∙ c.if-not-is_loaded_once_opened.true))

pub returns-in-Some-clause-right : goal.returns-in-Some-clause-right
returns-in-Some-clause-right c =
    sym (loaded-some c.args.lists.now c.in-Some.rows (sym c.is_loaded_once_opened.ensures ∙ c.if-not-is_loaded_once_opened.false)
    (ap (rows_checked c.args.lists.now.meeting.loaded) (sym c.replace-rows.ensures.value) ∙ sym c.in-Some.ensures)).0

pub returns-in-Some-clause-ordered : goal.returns-in-Some-clause-ordered
returns-in-Some-clause-ordered c = λ _.
    (loaded-some c.args.lists.now c.in-Some.rows (sym c.is_loaded_once_opened.ensures ∙ c.if-not-is_loaded_once_opened.false)
    (ap (rows_checked c.args.lists.now.meeting.loaded) (sym c.replace-rows.ensures.value) ∙ sym c.in-Some.ensures)).1

pub returns-in-None-clause-right : goal.returns-in-None-clause-right
returns-in-None-clause-right c =
    sym (loaded-none c.args.lists.now (ap (rows_checked c.args.lists.now.meeting.loaded) (sym c.replace-rows.ensures.value) ∙ sym c.in-None.ensures))
