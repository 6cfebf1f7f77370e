use Rattle.std.proofs.Common.{◌-◌, ◌≤◌, length, arith}
use Rattle.http_heads.proofs.HeadReadLemmas.{none_read, some_read}
use Rattle.http_heads.proofs.heads.HeadReader.fill.Goals as goal

pub returns-in_err-count-clause-comes : goal.returns-in_err-count-clause-comes
returns-in_err-count-clause-comes g c =
    let inside = c.self.inside in
    let failed = c.in_err-count.ensures in
    let within : inside.filled ≤ length inside.buffer = omega (arith, c.self.invariant.capacity, c.self.invariant.filled_fits) in
    rw (← c.self.view_is) (none_read inside.filled (8192 - inside.filled) inside.buffer c.read.new.buffer _ _ _ _ within failed.none_lost failed.none_passed)

pub returns-clause-comes : goal.returns-clause-comes
returns-clause-comes g c =
    let inside = c.self.inside in
    let given = c.in_ok-count.ensures in
    let within : inside.filled ≤ length inside.buffer = omega (arith, c.self.invariant.capacity, c.self.invariant.filled_fits) in
    rw (← c.self.view_is) (some_read inside.filled (8192 - inside.filled) c.in_ok-count.count inside.buffer c.read.new.buffer _ _ _ _ within given.bound given.bytes given.count)
