use Rattle.std.proofs.Common.{sym, ◌∙◌}
use Rattle.office_days.proofs.WorkLemmas.{work-working_day, work-other_day}
use Rattle.office_days.proofs.working.worked_that_day.Goals as goal

pub returns-then-is_working : goal.returns-then-is_working
returns-then-is_working c = sym (work-working_day c.args.closed.now c.args.second (sym c.is_working.ensures ∙ c.if-is_working.true))

pub returns-else-is_working : goal.returns-else-is_working
returns-else-is_working c = sym (work-other_day c.args.closed.now c.args.second (sym c.is_working.ensures ∙ c.if-is_working.false))
