-- The year, the month and the day of the month of a date's number are the date's own.
use Rattle.std.proofs.Common.{◌≡◌, ℕ, zero, suc, ◌+◌, ◌-◌, ◌/◌, ◌%◌, ◌<◌, ◌≤◌, List, [], ◌++◌, get_or, min, inl, inr, add-zero, refl, sym, ap, ◌∙◌, arith, pos, Some}
use Rattle.std.specs.Prelude.{codes}
use Rattle.std.proofs.lemmas.Bool.{le-leb, lt-leb, cases_lt}
use Rattle.jiff_core.specs.Calendar.{IsCivilDate}
use Rattle.jiff_core.proofs.SignedLemmas.{signed_arith}
use Rattle.jiff_core.proofs.CalendarLemmas.{day_of_year_bound, days_of_months_mono}
use Rattle.calendar.specs.Calendar.{days_in_year, days_in_month, days_of_years, days_of_months, day_number, civil_day, periods_over, year_of, day_of_year, month_of, day_of_month}
use Rattle.calendar.proofs.Dates.{days_of_months-library}
use Rattle.calendar.specs.DateTexts.{two_digit_text, day_text, moment_text, day_of}
use Rattle.calendar.proofs.Digits.{date_bytes, time_bytes, with_time, ten_bytes}
use Rattle.calendar.proofs.Unique.{IsNumbered, civil_day-IsNumbered}

-- the periods that end no later than the kth are over, and no others
pub periods_over-min : (ends : ℕ → ℕ) → ((a b : ℕ) → a ≤ b → ends a ≤ ends b) → (n k time : ℕ) → ends k ≤ time → time < ends (suc k) → periods_over ends n time ≡ min n k
unfolding periods_over
periods_over-min ends mono zero k time low high = omega arith
periods_over-min ends mono (suc n) k time low high =
    let before = periods_over-min ends mono n k time low high in
    elim (cases_lt n k) [
      | inl lt ↦ rw (le-leb (ends (suc n)) time (omega (arith, mono (suc n) k (omega arith)))) (omega arith)
      | inr ge ↦ rw (lt-leb (ends (suc n)) time (omega (arith, mono (suc k) (suc n) (omega arith)))) (omega arith)
    ]

days_of_years-suc : (n : ℕ) → days_of_years (suc n) ≡ days_of_years n + days_in_year (1900 + n)
unfolding days_of_years
days_of_years-suc n = refl

days_of_months-suc : (y n : ℕ) → days_of_months y (suc n) ≡ days_of_months y n + days_in_month y (suc n)
unfolding days_of_months
days_of_months-suc y n = refl

days_of_years-add : (n k : ℕ) → days_of_years n ≤ days_of_years (n + k)
days_of_years-add n zero = rw (add-zero n) (omega arith)
days_of_years-add n (suc k) =
    let next : n + suc k ≡ suc (n + k) = omega arith in
    rw next (omega (arith, days_of_years-suc (n + k), days_of_years-add n k))

days_of_years-mono : (a b : ℕ) → a ≤ b → days_of_years a ≤ days_of_years b
days_of_years-mono a b h =
    let same : a + (b - a) ≡ b = omega arith in
    rw same at (days_of_years-add a (b - a))

days_of_months-mono : (y a b : ℕ) → a ≤ b → days_of_months y a ≤ days_of_months y b
days_of_months-mono y a b h =
    rw (days_of_months-library y a, days_of_months-library y b) at (days_of_months_mono (pos y) a b h)

day_number-parts : (y m d : ℕ) → day_number y m d ≡ days_of_years (y - 1900) + days_of_months y (m - 1) + (d - 1)
unfolding day_number
day_number-parts y m d = refl

-- a day of a month is over before its year is
day_of_year-bound : (y m d n : ℕ) → IsNumbered y m d n → days_of_months y (m - 1) + d ≤ days_in_year y
day_of_year-bound y m d n h =
    let civil : IsCivilDate (pos y) m d = ((omega (arith, signed_arith, h.from, h.upto), omega (arith, signed_arith, h.upto)), (h.month_from, h.month_upto), (h.day_from, h.day_upto)) in
    rw (days_of_months-library y (m - 1)) at (day_of_year_bound (pos y) m d civil)

pub year_of-number : (y m d n : ℕ) → IsNumbered y m d n → year_of n ≡ y
year_of-number y m d n h =
    let parts = day_number-parts y m d in
    let bound = day_of_year-bound y m d n h in
    let year : 1900 + (y - 1900) ≡ y = omega (arith, h.from) in
    let whole : days_of_years (suc (y - 1900)) ≡ days_of_years (y - 1900) + days_in_year y = rw year at (days_of_years-suc (y - 1900)) in
    omega (arith, h.from, h.upto, periods_over-min days_of_years days_of_years-mono 1099 (y - 1900) n (omega (arith, h.number)) (omega (arith, h.number, h.day_from)))

pub month_of-number : (y m d n : ℕ) → IsNumbered y m d n → (month_of n ≡ m) × (day_of_month n ≡ d)
month_of-number y m d n h =
    let parts = day_number-parts y m d in
    let year = year_of-number y m d n h in
    let before = days_of_months y (m - 1) in
    let rest : n - days_of_years (y - 1900) ≡ before + (d - 1) = omega (arith, parts, h.number) in
    let of_year : day_of_year n ≡ before + (d - 1) = ap (λ z. n - days_of_years (z - 1900)) year ∙ rest in
    let back : suc (m - 1) ≡ m = omega (arith, h.month_from) in
    let ends : days_of_months y (suc (m - 1)) ≡ before + days_in_month y m = days_of_months-suc y (m - 1) ∙ ap (λ z. before + days_in_month y z) back in
    let over = periods_over-min (days_of_months y) (days_of_months-mono y) 11 (m - 1) (before + (d - 1)) (omega arith) (omega (arith, ends, h.day_from, h.day_upto)) in
    let month : month_of n ≡ m =
    ap (λ z. 1 + periods_over (days_of_months z) 11 (day_of_year n)) year
    ∙ ap (λ time. 1 + periods_over (days_of_months y) 11 time) of_year
    ∙ omega (arith, over, h.month_from, h.month_upto) in
    let day : day_of_month n ≡ d =
    ap (λ time. 1 + (time - days_of_months (year_of n) (month_of n - 1))) of_year
    ∙ ap (λ z. 1 + (before + (d - 1) - days_of_months z (month_of n - 1))) year
    ∙ ap (λ k. 1 + (before + (d - 1) - days_of_months y (k - 1))) month
    ∙ omega (arith, h.day_from) in
    (month, day)

-- the digits of a date are the text of its number
pub day_text-bytes : (y m d n : ℕ) → civil_day y m d ≡ Some n → date_bytes y m d [] ≡ day_text n
unfolding day_text
day_text-bytes y m d n e =
    let h = civil_day-IsNumbered y m d n e in
    let year = year_of-number y m d n h in
    let month = month_of-number y m d n h in
    sym (
    ap (λ z. two_digit_text (z / 100) ++ two_digit_text (z % 100) ++ codes "-" ++ two_digit_text (month_of n) ++ codes "-" ++ two_digit_text (day_of_month n)) year
    ∙ ap (λ z. two_digit_text (y / 100) ++ two_digit_text (y % 100) ++ codes "-" ++ two_digit_text z ++ codes "-" ++ two_digit_text (day_of_month n)) month.0
    ∙ ap (λ z. two_digit_text (y / 100) ++ two_digit_text (y % 100) ++ codes "-" ++ two_digit_text m ++ codes "-" ++ two_digit_text z) month.1
    )

-- a day's text with the time on the clock after it is the moment's text
pub moment_text-day_text : (text : List ℕ) (moment : ℕ) → text ≡ day_text (moment / 86400) → day_of text ≡ Some (moment / 86400) → with_time (get_or text 0 0) (get_or text 1 0) (get_or text 2 0) (get_or text 3 0) (get_or text 4 0) (get_or text 5 0) (get_or text 6 0) (get_or text 7 0) (get_or text 8 0) (get_or text 9 0) (time_bytes (moment % 86400 / 3600) (moment % 86400 / 60 % 60) (moment % 86400 % 60)) ≡ moment_text moment
unfolding moment_text
moment_text-day_text text moment e f =
    let second = moment % 86400 in
    sym (ap (λ day. day ++ codes "T" ++ two_digit_text (second / 3600) ++ codes ":" ++ two_digit_text (second / 60 % 60) ++ codes ":" ++ two_digit_text (second % 60)) (sym e ∙ ten_bytes text (moment / 86400) f))
