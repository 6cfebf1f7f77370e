-- The Gregorian calendar of the years 1900 to 2999, in days counted from 1900-01-01.
use Rattle.std.specs.Prelude.{ℕ, zero, suc, ◌+◌, ◌-◌, ◌%◌, Bool, not, ◌&&◌, ◌||◌, ◌==◌, nat_le, Option, Some, None, if◌then◌else◌}

-- every fourth year, but of the centuries only every fourth
abbrev pub is_leap_year : ℕ → Bool
is_leap_year y = (y % 4 == 0) && (not (y % 100 == 0) || (y % 400 == 0))

-- the days of a year
abbrev pub days_in_year : ℕ → ℕ
days_in_year y = if is_leap_year y then 366 else 365

-- thirty days have September, April, June and November
abbrev pub days_in_month : ℕ → ℕ → ℕ
days_in_month y m =
    if m == 2 then (if is_leap_year y then 29 else 28)
    else (if (m == 4) || (m == 6) || (m == 9) || (m == 11) then 30 else 31)

-- the days of the first n years from 1900 on
unfoldable pub days_of_years : ℕ → ℕ
days_of_years zero = 0
days_of_years (suc n) = days_of_years n + days_in_year (1900 + n)

-- the days of the first n months of a year
unfoldable pub days_of_months : ℕ → ℕ → ℕ
days_of_months y zero = 0
days_of_months y (suc n) = days_of_months y n + days_in_month y (suc n)

-- whether the calendar has this date, in the years 1900 to 2999
abbrev pub is_date : ℕ → ℕ → ℕ → Bool
is_date y m d =
    nat_le 1900 y && nat_le y 2999 && nat_le 1 m && nat_le m 12 && nat_le 1 d
    && nat_le d (days_in_month y m)

-- the days from 1900-01-01 to a date: of the years before it, of the months before it in its year,
-- of its month before it
unfoldable pub day_number : ℕ → ℕ → ℕ → ℕ
day_number y m d = days_of_years (y - 1900) + days_of_months y (m - 1) + (d - 1)

-- the day of a date, if the calendar has it
abbrev pub civil_day : ℕ → ℕ → ℕ → Option ℕ
civil_day y m d = if is_date y m d then Some (day_number y m d) else None

-- whether a clock shows this time; no minute has a 61st second
abbrev pub is_time : ℕ → ℕ → ℕ → Bool
is_time hour minute second = nat_le hour 23 && nat_le minute 59 && nat_le second 59

-- how many of the first n periods are over by a time, where the nth ends at the time `ends n`
unfoldable pub periods_over : (ℕ → ℕ) → ℕ → ℕ → ℕ
periods_over ends zero time = 0
periods_over ends (suc n) time =
    periods_over ends n time + (if nat_le (ends (suc n)) time then 1 else 0)

-- the year that a day lies in: as many years from 1900 on are over by then
abbrev pub year_of : ℕ → ℕ
year_of day = 1900 + periods_over days_of_years 1099 day

-- the days of its year that are over by a day
abbrev pub day_of_year : ℕ → ℕ
day_of_year day = day - days_of_years (year_of day - 1900)

-- the month that a day lies in: as many months of its year are over by then
abbrev pub month_of : ℕ → ℕ
month_of day = 1 + periods_over (days_of_months (year_of day)) 11 (day_of_year day)

-- the place of a day in its month, from 1
abbrev pub day_of_month : ℕ → ℕ
day_of_month day = 1 + (day_of_year day - days_of_months (year_of day) (month_of day - 1))
