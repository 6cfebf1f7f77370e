use Rattle.std.proofs.Common.{arith, length-take, ◌∙◌}
use Rattle.tcp_close.proofs.GaveLemmas.{gave-more}
use Rattle.tcp_close.proofs.ending.drain.Goals as goal

pub loop-taken-preserved : goal.loop-taken-preserved
loop-taken-preserved g c =
    let before = c.loop-taken.invariant in let given = c.in_ok-count.ensures in
    let auto = c.read.auto.buffer in
    let cut = length-take c.min-most.result c.loop-taken.piece in
    record {
      gave = gave-more _ _ _ _ _ _ _ _ _ _ (omega arith) given.bound before.gave given.bytes given.count;
      count = omega (arith, given.count, before.count);
      bound = omega (arith, given.bound, auto, cut, c.min-most.ensures, c.loop-taken-test.true);
      works = given.works ∙ before.works;
    }
