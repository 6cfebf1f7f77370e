use Rattle.std.proofs.Common.{◌*◌, ◌-◌, ◌/◌, arith}
use Rattle.office_days.proofs.WorkLemmas.{work-later}
use Rattle.office_days.proofs.working.bracket_near.Goals as goal

pub loop-back-preserved : goal.loop-back-preserved
loop-back-preserved c =
    let day = c.args.end / 86400 - c.loop-back.back in
    (omega arith, omega arith, omega arith, omega arith, λ later from upto. omega (arith, work-later c.args.closed.now (86400 * day) (86400 * later) c.args.end (omega arith) (omega arith)))
