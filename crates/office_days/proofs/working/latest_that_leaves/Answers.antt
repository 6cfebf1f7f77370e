use Rattle.std.proofs.Common.{arith, rules}
use Rattle.office_days.proofs.WorkLemmas.{latest_in_bracket}
use Rattle.office_days.proofs.working.latest_that_leaves.Goals as goal

pub overflow_add-result : goal.overflow_add-result
overflow_add-result c =
    let last = c.in_ok-last.last in
    let found = latest_in_bracket c.args.closed.now c.args.wanted c.args.end last.day last.left last.too_late (omega arith) c.in_ok-last.ensures.some c.in_ok-last.ensures.next in
    omega (arith, found.within, c.ranges.end)

pub returns-clause-found : goal.returns-clause-found
returns-clause-found c =
    let last = c.in_ok-last.last in
    latest_in_bracket c.args.closed.now c.args.wanted c.args.end last.day last.left last.too_late (omega arith) c.in_ok-last.ensures.some c.in_ok-last.ensures.next

pub overflow_sub-result : goal.overflow_sub-result
overflow_sub-result c = search rules
