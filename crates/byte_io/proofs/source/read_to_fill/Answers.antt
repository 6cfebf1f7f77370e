use Rattle.std.proofs.Common.{arith, length-append, length-take, length-drop, ◌∙◌}
use Rattle.byte_io.proofs.BytesChained.{Consumes-more}
use Rattle.byte_io.proofs.source.read_to_fill.Goals as goal

pub loop-filled-preserved : goal.loop-filled-preserved
loop-filled-preserved g c =
    let before = c.loop-filled.invariant in let given = c.in-Ok.ensures in
    let auto = c.read.auto.buffer in
    record {
      bound = simp (length-append, length-take, length-drop) (omega (arith, given.bound));
      count = omega (arith, given.count, before.count);
      bytes = Consumes-more _ _ _ _ _ c.in-Ok.count _ _ before.bound given.bound before.bytes given.bytes;
      works = given.works ∙ before.works;
    }
