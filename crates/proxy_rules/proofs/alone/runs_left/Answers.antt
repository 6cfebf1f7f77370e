use Rattle.std.proofs.Common.{◌≤◌, ◌-◌, ap, sym, ◌∙◌, arith}
use Rattle.std.proofs.lemmas.Bool.Decides.{nat_tests}
use Rattle.proxy_rules.specs.Alone.{is_left}
use Rattle.proxy_rules.specs.PlaceRuns.{joined, runs_that}
use Rattle.proxy_rules.proofs.AloneLemmas.{nothing_before, range_ends, run_more, skipped}
use Rattle.proxy_rules.proofs.alone.runs_left.Goals as goal

pub loop-next-init : goal.loop-next-init
loop-next-init c =
    let a = c.args in
    let ends = range_ends a.range.from a.range.to c.from-next.ensures.valid in
    let first = c.from-next.ensures.value in
    record {
      begun = omega (arith, first);
      within = omega (arith, first, ends.1);
      made = c.new-runs.ensures.items ∙ nothing_before a.cutoffs.now a.later.now a.range ends.0 ∙ ap (λ n. runs_that (is_left a.cutoffs.now a.later.now a.range) (n - 1)) (sym first);
    }

pub loop-next-preserved-in-Some : goal.loop-next-preserved-in-Some
loop-next-preserved-in-Some c =
    let a = c.args in
    let ends = range_ends a.range.from a.range.to c.from-next.ensures.valid in
    let before = c.loop-next.invariant in
    let inside : c.loop-next.next ≤ a.range.to = grind (arith, nat_tests, c.loop-next-test.true, c.to.ensures.value) in
    let taken = c.in-Some.ensures.some in
    let least = c.min-next.ensures in
    let last = c.to-in-Some.ensures.value in
    skipped a.cutoffs.now a.later.now a.range c.loop-next.next c.min-next.result c.loop-next.runs.items
    (omega (arith, ends.0, before.begun)) before (omega (arith, least, last, inside, taken.0)) (omega (arith, least, last))
    (λ other low high. taken.1 other low (omega (arith, least, high)))

pub loop-next-preserved : goal.loop-next-preserved
loop-next-preserved c =
    let a = c.args in
    let ends = range_ends a.range.from a.range.to c.from-next.ensures.valid in
    let before = c.loop-next.invariant in
    let within = c.free_to-end.ensures.within in
    let last = c.to-in-None.ensures.value in
    run_more a.cutoffs.now a.later.now a.range c.loop-next.next c.free_to-end.result c.loop-next.runs.items c.join_run.new.runs.items
    (omega (arith, ends.0, before.begun)) before within.0 (omega (arith, within.1, last)) c.free_to-end.ensures.free
    (c.in_ok-join_run-in-None.ensures ∙ ap (joined c.loop-next.runs.items) c.with_ends.ensures)
