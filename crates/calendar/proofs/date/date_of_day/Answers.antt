use Rattle.std.proofs.Common.{◌≡◌, arith, pos, ◌+ℤ◌, FitsSigned, w16}
use Rattle.std.proofs.lemmas.Int.{to_z-of_z}
use Rattle.jiff_core.specs.Date.{epoch_day}
use Rattle.jiff_core.proofs.SignedLemmas.{signed_arith, unsigned_abs-parts, one_part}
use Rattle.jiff_core.proofs.DateLemmas.{civil}
use Rattle.calendar.proofs.Dates.{civil_day-Some}
use Rattle.calendar.proofs.date.date_of_day.Goals as goal

pub overflow_cast-result : goal.overflow_cast-result
overflow_cast-result c =
    let date = c.from_days_since_min-date.result in
    let number : epoch_day date +ℤ pos 25567 ≡ pos c.args.day = omega (arith, signed_arith) in
    let is = civil_day-Some date.year date.month date.day c.args.day (civil date) c.number.ensures.valid number in
    let fits : FitsSigned w16 date.year = omega (arith, signed_arith, is.0, is.1) in
    rw (to_z-of_z w16 date.year fits) (omega (arith, signed_arith, unsigned_abs-parts date.year, one_part date.year, is.0, is.1))

pub returns : goal.returns
returns c =
    let date = c.from_days_since_min-date.result in
    let number : epoch_day date +ℤ pos 25567 ≡ pos c.args.day = omega (arith, signed_arith) in
    let is = civil_day-Some date.year date.month date.day c.args.day (civil date) c.number.ensures.valid number in
    let fits : FitsSigned w16 date.year = omega (arith, signed_arith, is.0, is.1) in
    rw (to_z-of_z w16 date.year fits) is.2
