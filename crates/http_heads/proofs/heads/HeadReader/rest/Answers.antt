use Rattle.std.proofs.Common.{arith, length-take}
use Rattle.http_heads.proofs.HeadReadLemmas.{rest_is}
use Rattle.http_heads.proofs.heads.HeadReader.rest.Goals as goal

pub returns : goal.returns
returns c =
    let within = c.self.invariant.within.section.len_fits in
    rw (← c.self.view_is) (rest_is c.self.inside.head.len c.self.inside.filled c.self.inside.buffer (omega (arith, within, length-take c.self.inside.filled c.self.inside.buffer)))
