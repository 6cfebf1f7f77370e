use Rattle.std.proofs.Common.{◌*◌, ◌≤◌, ◌<◌, ℕ, refl, sym, ◌∙◌, arith}
use Rattle.calendar.proofs.Dates.{some_only}
use Rattle.office_days.specs.WorkingDays.{IsBack, work}
use Rattle.office_days.proofs.WorkLemmas.{back-is, back-none, few_from_first}
use Rattle.office_days.proofs.closed.Closed.back.Goals as goal

none : (c : goal.In-None) → (start : ℕ) → start ≤ c.args.moment → work c.args.self.now start c.args.moment < 3600 * c.args.hours
none c =
    let few = rw (c.days.ensures.value, c.seconds.ensures.value) at c.in-None.ensures.none refl in
    few_from_first c.args.self.now (3600 * c.args.hours) c.args.moment few

pub returns-in-None-clause-none : goal.returns-in-None-clause-none
returns-in-None-clause-none c = none c

pub returns-in-None-clause-value : goal.returns-in-None-clause-value
returns-in-None-clause-value c = sym (back-none c.args.self.now c.args.hours c.args.moment (none c))

pub returns-in-Some-clause-value : goal.returns-in-Some-clause-value
returns-in-Some-clause-value c =
    let start = c.in-Some.start in
    let latest = rw (c.days.ensures.value, c.seconds.ensures.value) at c.in-Some.ensures.found in
    let is : IsBack c.args.self.now c.args.hours c.args.moment start =
    record { at_or_before = latest.within; leaves = latest.leaves; greatest = latest.latest } in
    sym c.ok_or.ensures.ok_part ∙ some_only c.new.result start (c.new.ensures.valid.1 (omega (arith, latest.within, c.seconds.ensures.valid))) c.new.ensures.value ∙ sym (back-is c.args.self.now c.args.hours c.args.moment start is)
