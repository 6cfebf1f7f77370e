use Rattle.std.proofs.Common.{arith}
use Rattle.line_reader.proofs.Feeds.{still-searched}
use Rattle.line_reader.proofs.reader.LineReader.read_more.Goals as goal

pub invariant_of-self-2 : goal.invariant_of-self-2
invariant_of-self-2 g c =
    let came = c.in_ok-count.ensures.arrives in
    (still-searched c.self.inside.searched _ _ came.bytes c.self.invariant.0 came.behind, omega (arith, c.in_ok-count.ensures.bound))
