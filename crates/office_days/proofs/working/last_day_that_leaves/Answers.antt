use Rattle.std.proofs.Common.{◌+◌, ◌*◌, ◌-◌, ◌/◌, arith}
use Rattle.office_days.proofs.WorkLemmas.{work-later}
use Rattle.office_days.proofs.working.last_day_that_leaves.Goals as goal

pub loop-bracket-preserved : goal.loop-bracket-preserved
loop-bracket-preserved c =
    let bracket = c.loop-bracket.bracket in
    let middle = bracket.day + (bracket.too_late - bracket.day) / 2 in
    record {
      ordered = omega arith;
      within = omega (arith, c.loop-bracket.invariant.within);
      is = c.loop-bracket.invariant.is;
      enough = c.loop-bracket.invariant.enough;
      few = λ later from upto. omega (arith, c.work-left.ensures, work-later c.args.closed.now (86400 * middle) (86400 * later) c.args.end (omega arith) (omega arith));
    }
