use Rattle.std.proofs.Common.{◌+◌, ◌∙◌}
use Rattle.byte_io.proofs.BytesChained.{Appends-more, rest-more, within-more}
use Rattle.byte_io.proofs.sink.write_all.Goals as goal

pub loop-rest-preserved : goal.loop-rest-preserved
loop-rest-preserved g c =
    let before = c.loop-rest.invariant.written in let taken = c.in_ok-count.ensures in
    record {
      written = (before.0 + c.in_ok-count.count, within-more _ _ before.0 c.in_ok-count.count before.2 before.1 taken.bound, rest-more _ _ before.0 c.in_ok-count.count before.2, Appends-more _ _ _ _ _ before.0 c.in_ok-count.count before.2 before.3 taken.written);
      works = taken.works ∙ c.loop-rest.invariant.works;
    }
