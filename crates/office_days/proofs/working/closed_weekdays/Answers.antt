use Rattle.std.proofs.Common.{◌+◌, ◌-◌, ◌≤◌, ◌≡◌, sym, ◌∙◌, arith, inl, inr}
use Rattle.std.proofs.lemmas.Bool.{cases_lt}
use Rattle.office_days.specs.WorkingDays.{is_weekday}
use Rattle.office_days.proofs.ClosedDays.{days_differ, numbers_that-closed, count_by-run}
use Rattle.office_days.proofs.working.closed_weekdays.Goals as goal

pub returns : goal.returns
returns c =
    let first = c.place_of-first.result in
    let end = c.place_of-end.result in
    let closed = c.args.closed.now in
    let ordered : first ≤ end =
    elim (cases_lt end first) [
      | inl turned ↦ omega (arith, c.place_of-first.ensures.before end turned, c.place_of-end.ensures.after end)
      | inr straight ↦ straight
    ] in
    let count : first + (end - first) ≡ end = omega arith in
    let run = count_by-run is_weekday closed first (end - first) c.args.from c.args.to (omega arith)
    c.place_of-first.ensures.before
    (λ k from below. (c.place_of-first.ensures.after k from (omega arith), c.place_of-end.ensures.before k (omega arith)))
    (λ k past within. c.place_of-end.ensures.after k (omega arith) within) in
    c.count_weekdays.ensures ∙ sym run ∙ sym (numbers_that-closed is_weekday closed c.args.from c.args.to (days_differ closed c.requires.sorted))
