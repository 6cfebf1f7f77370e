use Rattle.std.proofs.Common.{◌≡◌, sym, subst, arith}
use Rattle.http_heads.specs.Heads.{IsBroken}
use Rattle.http_heads.proofs.HeadLemmas.{open_broken}
use Rattle.http_heads.proofs.HeadReadLemmas.{Comes-chained, found_read, ended_known, nothing_more}
use Rattle.http_heads.proofs.heads.HeadReader.read_on.Goals as goal

pub returns-in-Some-clause-read : goal.returns-in-Some-clause-read
returns-in-Some-clause-read g c = found_read c.in-Some.front c.judge.new.self c.in-Some.ensures.found

pub returns-clause-read : goal.returns-clause-read
returns-clause-read g c =
    let before = c.loop-self.invariant in
    let last = c.in_ok-fill.ensures in
    let zero : c.in_ok-fill.field-0 ≡ 0 = omega (arith, c.if-branch-gt0.false) in
    let same = nothing_more _ _ _ _ _ _ last.comes (rw zero at last.count) in
    subst (λ bytes. IsBroken bytes) (sym same) (open_broken c.loop-self.self.bytes before.unsettled)

pub returns-clause-front : goal.returns-clause-front
returns-clause-front g c =
    let before = c.loop-self.invariant in
    let last = c.in_ok-fill.ensures in
    let zero : c.in_ok-fill.field-0 ≡ 0 = omega (arith, c.if-branch-gt0.false) in
    let same = nothing_more _ _ _ _ _ _ last.comes (rw zero at last.count) in
    let broken = subst (λ bytes. IsBroken bytes) (sym same) (open_broken c.loop-self.self.bytes before.unsettled) in
    ended_known c.fill.new.self _ _ _ _ _ (Comes-chained _ _ _ _ _ _ _ _ _ before.comes last.comes) (last.end zero) broken
