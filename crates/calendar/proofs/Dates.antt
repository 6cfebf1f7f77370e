-- The calendar of the specs against that of the library, which counts from -9999-01-01.
use Rattle.std.proofs.Common.{◌≡◌, ℕ, zero, suc, ◌+◌, ◌-◌, ◌<◌, ◌≤◌, true, Some, None, Option, IsSome, IfSome, refl, ap, arith, ℤ, pos, negsuc, ◌+ℤ◌, ◌<ℤ◌, ◌≤ℤ◌, unsigned_abs}
use Rattle.std.proofs.lemmas.Bool.{false≢true}
use Rattle.std.proofs.lemmas.Bool.Decides.{nat_tests}
use Rattle.std.proofs.lemmas.Int.{by_lt_z}
use Rattle.jiff_core.specs.Calendar.{days_from_civil, day_count, IsCivilDate, days_of_years as library_years, days_of_months as library_months}
use Rattle.jiff_core.specs.declared.civil.date.Date.{Date}
use Rattle.jiff_core.specs.Date.{epoch_day}
use Rattle.jiff_core.proofs.SignedLemmas.{signed_arith}
use Rattle.jiff_core.proofs.MarchLemmas.{leap_day, leap_day-shift, days_in_year-leap_day, days_of_years-suc, day_count-early}
use Rattle.jiff_core.proofs.DateLemmas.{civil}
use Rattle.jiff_core.proofs.CalendarLemmas.{days_from_civil-day_count, day_count-day_of_year, day_count-later_year, day_count-lt_year}
use Rattle.calendar.specs.Calendar.{days_in_year, days_in_month, days_of_years, days_of_months, day_number, is_date, civil_day}

pub days_of_months-library : (y m : ℕ) → library_months (pos y) m ≡ days_of_months y m
unfolding library_months days_of_months
days_of_months-library y zero = refl
days_of_months-library y (suc m) = ap (λ n. n + days_in_month y (suc m)) (days_of_months-library y m)

-- the library's years from -10000 up to 1900
pub years_before : library_years 11900 ≡ 4346386
unfolding day_count library_months
years_before =
    let first = day_count-early (pos 1900) 11899 1 1 refl (omega arith) (omega arith) (omega arith) in
    omega (arith, first)

-- a year has the days that the library gives it
pub days_of_year-library : (k : ℕ) → library_years (suc (11900 + k)) ≡ library_years (11900 + k) + days_in_year (1900 + k)
days_of_year-library k =
    let shift = leap_day-shift (pos (1900 + k)) (11900 + k) (omega (arith, signed_arith)) in
    let year : days_in_year (1900 + k) ≡ 365 + leap_day (pos (1900 + k)) = days_in_year-leap_day (pos (1900 + k)) in
    omega (arith, shift, year, days_of_years-suc (11900 + k))

pub days_of_years-library : (k : ℕ) → library_years (11900 + k) ≡ 4346386 + days_of_years k
unfolding days_of_years
days_of_years-library zero = years_before
days_of_years-library (suc k) =
    let next : 11900 + suc k ≡ suc (11900 + k) = omega arith in
    rw next (omega (arith, days_of_year-library k, days_of_years-library k))

-- the library's count of a date is that of 1900-01-01 and the date's number
pub day_count-library : (y m d : ℕ) → 1900 ≤ y → 1 ≤ d → day_count (pos y) m d ≡ 4346386 + day_number y m d
unfolding day_count day_number
day_count-library y m d h k =
    let count : y + 10000 ≡ 11900 + (y - 1900) = omega arith in
    rw (count, days_of_months-library y (m - 1), days_of_years-library (y - 1900)) (omega arith)

pub day_number-library : (y m d : ℕ) → 1900 ≤ y → 1 ≤ d → days_from_civil (pos y) m d +ℤ pos 25567 ≡ pos (day_number y m d)
day_number-library y m d h k =
    omega (arith, signed_arith, days_from_civil-day_count (pos y) m d, day_count-library y m d h k)

pub is_date-true : (y m d : ℕ) → 1900 ≤ y → y ≤ 2999 → 1 ≤ m → m ≤ 12 → 1 ≤ d → d ≤ days_in_month y m → is_date y m d ≡ true
is_date-true y m d a b e f g h = grind (arith, nat_tests)

day_count-1900 : day_count (pos 1900) 1 1 ≡ 4346386
day_count-1900 = day_count-early (pos 1900) 11899 1 1 refl (omega arith) (omega arith) (omega arith)

day_count-3000 : day_count (pos 3000) 1 1 ≡ 4748153
day_count-3000 = day_count-early (pos 3000) 12999 1 1 refl (omega arith) (omega arith) (omega arith)

day_count-year_start : (y : ℤ) (m d : ℕ) → 1 ≤ d → day_count y 1 1 ≤ day_count y m d
day_count-year_start y m d h = omega (arith, day_count-day_of_year y m d h)

-- a date before 1900 or after 2999 is counted below the first day or above the last
pub early_count : (y : ℤ) (m d : ℕ) → IsCivilDate y m d → y <ℤ pos 1900 → day_count y m d < 4346386
early_count y m d h lt = omega (arith, day_count-1900, day_count-lt_year y m d (pos 1900) 1 1 h (omega arith) lt)

pub late_count : (y : ℤ) (m d : ℕ) → IsCivilDate y m d → pos 2999 <ℤ y → 4748153 ≤ day_count y m d
late_count y m d h lt =
    by_lt_z (pos 3000) y
    (λ later. omega (arith, day_count-3000, day_count-later_year (pos 3000) y (omega (arith, signed_arith)) later, day_count-year_start y m d h.2.0))
    (λ le. let e : y ≡ pos 3000 = omega (arith, signed_arith) in
    rw e (omega (arith, day_count-3000, day_count-year_start (pos 3000) m d h.2.0)))

-- a date of the years 1900 to 2999 is the one with its number
civil_day-at : (y : ℤ) (m d n : ℕ) → IsCivilDate y m d → pos 1900 ≤ℤ y → y ≤ℤ pos 2999 → day_count y m d ≡ 4346386 + n → civil_day (unsigned_abs y) m d ≡ Some n
civil_day-at (pos y) m d n h low high e =
    let from : 1900 ≤ y = omega (arith, signed_arith) in
    let upto : y ≤ 2999 = omega (arith, signed_arith) in
    let number : day_number y m d ≡ n = omega (arith, day_count-library y m d from h.2.0) in
    rw (is_date-true y m d from upto h.1.0 h.1.1 h.2.0 h.2.1, number) refl
civil_day-at (negsuc y) m d n h low high e = absurd (omega (arith, signed_arith))

-- a date whose number lies in the years 1900 to 2999 is the date with this number
pub civil_day-Some : (y : ℤ) (m d n : ℕ) → IsCivilDate y m d → n ≤ 401766 → days_from_civil y m d +ℤ pos 25567 ≡ pos n → (pos 1900 ≤ℤ y) × (y ≤ℤ pos 2999) × (civil_day (unsigned_abs y) m d ≡ Some n)
civil_day-Some y m d n h le e =
    let count : day_count y m d ≡ 4346386 + n = omega (arith, signed_arith, days_from_civil-day_count y m d) in
    let low : pos 1900 ≤ℤ y = by_lt_z y (pos 1900) (λ lt. absurd (omega (arith, early_count y m d h lt))) (λ ge. ge) in
    let high : y ≤ℤ pos 2999 = by_lt_z (pos 2999) y (λ lt. absurd (omega (arith, late_count y m d h lt))) (λ ge. ge) in
    (low, high, civil_day-at y m d n h low high count)

-- the number of a date of the years 1900 to 2999, in range
pub day_number_bound : (y m d : ℕ) → IsCivilDate (pos y) m d → 1900 ≤ y → y ≤ 2999 → day_number y m d ≤ 401766
day_number_bound y m d h low high =
    omega (arith, day_count-3000, day_count-library y m d low h.2.0, day_count-lt_year (pos y) m d (pos 3000) 1 1 h (omega arith) (omega (arith, signed_arith)))

pub some_only : (r : Option ℕ) (n : ℕ) → IsSome r → IfSome r (λ d. d ≡ n) → r ≡ Some n
some_only None n h e = absurd (false≢true h)
some_only (Some d) n h e = ap Some e

-- a date with this year, month and day has their number
pub epoch_day-number : (date : Date) (y m d : ℕ) → date.year ≡ pos y → pos date.month ≡ pos m → pos date.day ≡ pos d → 1900 ≤ y → y ≤ 2999 → (epoch_day date +ℤ pos 25567 ≡ pos (day_number y m d)) × (day_number y m d ≤ 401766) × (civil_day y m d ≡ Some (day_number y m d))
epoch_day-number date y m d year month day low high =
    let same_month : date.month ≡ m = omega (arith, signed_arith) in
    let same_day : date.day ≡ d = omega (arith, signed_arith) in
    let h : IsCivilDate (pos y) m d = rw (year, same_month, same_day) at (civil date) in
    let number : epoch_day date +ℤ pos 25567 ≡ pos (day_number y m d) = rw (year, same_month, same_day) (day_number-library y m d low h.2.0) in
    (number, day_number_bound y m d h low high, rw (is_date-true y m d low high h.1.0 h.1.1 h.2.0 h.2.1) refl)
