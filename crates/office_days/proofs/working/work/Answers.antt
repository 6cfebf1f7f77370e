use Rattle.std.proofs.Common.{sym, arith}
use Rattle.office_days.specs.WorkingDays.{is_working_second}
use Rattle.office_days.proofs.Counting.{numbers_that-none_between}
use Rattle.office_days.proofs.WorkLemmas.{work-by_days}
use Rattle.office_days.proofs.working.work.Goals as goal

pub returns-then-to-from : goal.returns-then-to-from
returns-then-to-from c = sym (numbers_that-none_between (is_working_second c.args.closed.now) c.args.from c.args.to c.if-to-from.true)

pub overflow_mul-result : goal.overflow_mul-result
overflow_mul-result c =
    let by = work-by_days c.args.closed.now c.args.from c.args.to (omega arith) in
    omega (arith, by.days)

pub overflow_add-result : goal.overflow_add-result
overflow_add-result c =
    let by = work-by_days c.args.closed.now c.args.from c.args.to (omega arith) in
    omega (arith, by.sum)

pub overflow_sub-result : goal.overflow_sub-result
overflow_sub-result c =
    let by = work-by_days c.args.closed.now c.args.from c.args.to (omega arith) in
    omega (arith, by.is)

pub returns : goal.returns
returns c =
    let by = work-by_days c.args.closed.now c.args.from c.args.to (omega arith) in
    omega (arith, by.is)
