use Rattle.office_days.proofs.closed.Closed.from_days.Goals as goal

pub returns-in-Ok-clause-days : goal.returns-in-Ok-clause-days
returns-in-Ok-clause-days c = rw c.in_ok-days.ensures.items at c.in-Ok.ensures.days
