-- The numbers of the first day, of 1970-01-01 and of the last.
use Rattle.std.proofs.Common.{◌≡◌, refl, arith, pos}
use Rattle.jiff_core.proofs.MarchLemmas.{day_count-early, day_count-late}
use Rattle.calendar.specs.Calendar.{day_number}
use Rattle.calendar.proofs.Dates.{day_count-library}

pub day_number-first : day_number 1900 1 1 ≡ 0
day_number-first =
    omega (arith, day_count-library 1900 1 1 (omega arith) (omega arith), day_count-early (pos 1900) 11899 1 1 refl (omega arith) (omega arith) (omega arith))

pub day_number-1970 : day_number 1970 1 1 ≡ 25567
day_number-1970 =
    omega (arith, day_count-library 1970 1 1 (omega arith) (omega arith), day_count-early (pos 1970) 11969 1 1 refl (omega arith) (omega arith) (omega arith))

pub day_number-last : day_number 2999 12 31 ≡ 401766
day_number-last =
    omega (arith, day_count-library 2999 12 31 (omega arith) (omega arith), day_count-late (pos 2999) 12999 12 31 refl (omega arith) (omega arith) (omega arith))
