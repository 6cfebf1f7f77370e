use Rattle.std.proofs.Common.{sym, arith}
use Rattle.std.proofs.lemmas.Bool.Decides.{nat_tests}
use Rattle.caller_view.proofs.RightsLemmas.{fails_at, none_fails}
use Rattle.caller_view.specs.Rights.{governed_at_poll, is_governed}
use Rattle.caller_view.proofs.rights.some_ungoverned.Goals as goal

pub returns-in-None : goal.returns-in-None
returns-in-None c =
    let a = c.args in
    let preserved = c.loop-next.invariant in
    sym (fails_at (is_governed a.received.now (governed_at_poll a.late a.poll.now) a.new.now) a.new.now.from a.new.now.to c.loop-next.next preserved.begun preserved.after
    (grind (arith, nat_tests, c.loop-next-test.true)) (c.run_at.ensures.none c.in-None.is))

pub returns : goal.returns
returns c =
    let a = c.args in
    let preserved = c.loop-next.invariant in
    sym (none_fails (is_governed a.received.now (governed_at_poll a.late a.poll.now) a.new.now) a.new.now.from a.new.now.to
    (λ place one after before. preserved.governed place one after (grind (arith, nat_tests, before, c.loop-next-test.false))))
