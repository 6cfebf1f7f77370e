use Rattle.std.proofs.Common.{sym, ap, ◌∙◌, ◌+◌, ◌*◌, ◌/◌}
use Rattle.office_days.proofs.Counting.{numbers_that-weekdays}
use Rattle.office_days.proofs.working.weekdays_before.Goals as goal

pub returns : goal.returns
returns c = ap (λ n. c.args.day / 7 * 5 + n) c.min.ensures ∙ sym (numbers_that-weekdays c.args.day)
