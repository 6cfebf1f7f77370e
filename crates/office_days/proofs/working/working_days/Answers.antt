use Rattle.std.proofs.Common.{arith}
use Rattle.office_days.proofs.WorkLemmas.{weekdays-parts}
use Rattle.office_days.proofs.working.working_days.Goals as goal

pub overflow_sub-result : goal.overflow_sub-result
overflow_sub-result c = omega (arith, weekdays-parts c.args.closed.now c.args.from c.args.to c.requires.ordered)

pub overflow_sub-result-2 : goal.overflow_sub-result-2
overflow_sub-result-2 c = omega (arith, weekdays-parts c.args.closed.now c.args.from c.args.to c.requires.ordered)

pub returns : goal.returns
returns c = omega (arith, weekdays-parts c.args.closed.now c.args.from c.args.to c.requires.ordered)
