use Rattle.std.proofs.Common.{List, ℕ}
use Rattle.row_source.proofs.MemberLemmas.{seen-more}
use Rattle.row_source.proofs.members.givers_of.Goals as goal

pub loop-appointment-preserved : goal.loop-appointment-preserved
loop-appointment-preserved c = λ (member : List ℕ).
    seen-more member c.args.given.now c.loop-appointment.appointment-index c.appointment-item.result _ _ c.loop-appointment-test.true c.appointment-item.is
    (c.in_ok-insert.ensures.updates.0 member) (c.loop-appointment.invariant member)
