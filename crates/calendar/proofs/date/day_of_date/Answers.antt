use Rattle.std.proofs.Common.{◌≡◌, ◌-◌, Some, arith, sym, ◌∙◌, ap, w8, w16, IsSome}
use Rattle.std.proofs.lemmas.Int.{to_z_pos}
use Rattle.jiff_core.proofs.SignedLemmas.{signed_arith}
use Rattle.calendar.specs.Calendar.{day_number}
use Rattle.calendar.proofs.Dates.{epoch_day-number, some_only}
use Rattle.calendar.proofs.date.day_of_date.Goals as goal

pub overflow_sub-days_since_min : goal.overflow_sub-days_since_min
overflow_sub-days_since_min c =
    let is = c.in-Ok.ensures in
    let date = c.in-Ok.date in
    let year = is.value.0 ∙ to_z_pos w16 c.args.year (omega arith) in
    let month = is.value.1 ∙ to_z_pos w8 c.args.month (omega arith) in
    let day = is.value.2 ∙ to_z_pos w8 c.args.day (omega arith) in
    let known = epoch_day-number date c.args.year c.args.month c.args.day year month day c.if-year-lt1900.false c.if-year-gt2999.false in
    omega (arith, signed_arith, known.0, known.1)

pub returns : goal.returns
returns c =
    let is = c.in-Ok.ensures in
    let date = c.in-Ok.date in
    let year = is.value.0 ∙ to_z_pos w16 c.args.year (omega arith) in
    let month = is.value.1 ∙ to_z_pos w8 c.args.month (omega arith) in
    let day = is.value.2 ∙ to_z_pos w8 c.args.day (omega arith) in
    let known = epoch_day-number date c.args.year c.args.month c.args.day year month day c.if-year-lt1900.false c.if-year-gt2999.false in
    let number : c.days_since_min.result - 4346020 ≡ day_number c.args.year c.args.month c.args.day = omega (arith, signed_arith, known.0, known.1) in
    let some : IsSome c.new-2.result = c.new-2.ensures.valid.1 (omega (arith, number, known.1)) in
    some_only c.new-2.result _ some c.new-2.ensures.value ∙ ap Some number ∙ sym known.2
