-- A day has one text, and so has a moment.
use Rattle.std.proofs.Common.{◌≡◌, ℕ, zero, suc, ◌+◌, ◌*◌, ◌<◌, ◌≤◌, true, List, [], ◌∷◌, length, get_or, cond, Option, Some, None, refl, sym, ap, ◌∙◌, arith, pos}
use Rattle.std.proofs.lemmas.Bool.{and_parts, leb-true, eqb-true}
use Rattle.std.proofs.lemmas.Option.{cond_some, none-some, same_Some}
use Rattle.std.proofs.Math.ListN.{get_or-append}
use Rattle.std.specs.List.{list_all, zip}
use Rattle.std.specs.Prelude.{option_map, option_and_then}
use Rattle.jiff_core.specs.declared.civil.date.Date.{Date}
use Rattle.jiff_core.proofs.SignedLemmas.{signed_arith}
use Rattle.jiff_core.proofs.DateLemmas.{epoch_day_injective}
use Rattle.calendar.specs.Calendar.{civil_day, day_number, days_in_month, is_date, is_time}
use Rattle.calendar.specs.DateTexts.{is_digit, fits, has_form, day_form, moment_form, two_digits, date_of, time_of, day_of, moment_of}
use Rattle.calendar.proofs.Dates.{day_number-library}
use Rattle.calendar.proofs.Digits.{fit, table, time_form, list_is_table, ten_bytes, cond-Some, day_of-Some}

-- what a date of the calendar and its number are
pub record IsNumbered (y m d n : ℕ) : Type 0 where
  pub from : 1900 ≤ y
  pub upto : y ≤ 2999
  pub month_from : 1 ≤ m
  pub month_upto : m ≤ 12
  pub day_from : 1 ≤ d
  pub day_upto : d ≤ days_in_month y m
  pub number : day_number y m d ≡ n

pub civil_day-IsNumbered : (y m d n : ℕ) → civil_day y m d ≡ Some n → IsNumbered y m d n
civil_day-IsNumbered y m d n e =
    let is = cond_some (is_date y m d) (day_number y m d) n e in
    let five = and_parts _ _ is.0 in
    let four = and_parts _ _ five.0 in
    let three = and_parts _ _ four.0 in
    let two = and_parts _ _ three.0 in
    let one = and_parts _ _ two.0 in
    record {
      from = leb-true _ _ one.0;
      upto = leb-true _ _ one.1;
      month_from = leb-true _ _ two.1;
      month_upto = leb-true _ _ three.1;
      day_from = leb-true _ _ four.1;
      day_upto = leb-true _ _ five.1;
      number = is.1;
    }

date_like : (y m d n : ℕ) → IsNumbered y m d n → Date
date_like y m d n h = record { year = pos y; month = m; day = d; year_in = omega (arith, signed_arith, h.from, h.upto); month_in = (h.month_from, h.month_upto); day_in = (h.day_from, h.day_upto) }

pub civil_day_injective : (y m d y₂ m₂ d₂ n : ℕ) → civil_day y m d ≡ Some n → civil_day y₂ m₂ d₂ ≡ Some n → (y ≡ y₂) × (m ≡ m₂) × (d ≡ d₂)
unfolding date_like
civil_day_injective y m d y₂ m₂ d₂ n e e₂ =
    let h = civil_day-IsNumbered y m d n e in
    let h₂ = civil_day-IsNumbered y₂ m₂ d₂ n e₂ in
    let a = day_number-library y m d h.from h.day_from in
    let b = day_number-library y₂ m₂ d₂ h₂.from h₂.day_from in
    let same = epoch_day_injective (date_like y m d n h) (date_like y₂ m₂ d₂ n h₂) (omega (arith, signed_arith, a, b, h.number, h₂.number)) in
    (omega (arith, signed_arith, same.0), same.1, same.2)

zip_at : (form text : List ℕ) (k : ℕ) → list_all fit (zip form text) ≡ true → length form ≡ length text → k < length form → fits (get_or form k 0) (get_or text k 0) ≡ true
zip_at [] text k e long h = absurd (omega arith)
zip_at (sign ∷ form) [] k e long h = absurd (omega arith)
zip_at (sign ∷ form) (byte ∷ text) zero e long h = (and_parts _ _ e).0
zip_at (sign ∷ form) (byte ∷ text) (suc k) e long h = zip_at form text k (and_parts _ _ e).1 (omega arith) (omega arith)

-- a text with a form fits it at each place
pub fits_at : (form text : List ℕ) (k : ℕ) → has_form form text ≡ true → k < length form → fits (get_or form k 0) (get_or text k 0) ≡ true
fits_at form text k e h =
    let parts = and_parts _ _ e in
    zip_at form text k parts.1 (eqb-true _ _ parts.0) h

is_digit-bounds : (byte : ℕ) → is_digit byte ≡ true → (48 ≤ byte) × (byte ≤ 57)
is_digit-bounds byte e = (leb-true _ _ (and_parts _ _ e).0, leb-true _ _ (and_parts _ _ e).1)

-- two digits stand at a place of a text
pub record HasDigits (text : List ℕ) (place : ℕ) : Type 0 where
  pub tens : (48 ≤ get_or text place 0) × (get_or text place 0 ≤ 57)
  pub ones : (48 ≤ get_or text (place + 1) 0) × (get_or text (place + 1) 0 ≤ 57)

-- a text fits the signs of a date's form
abbrev pub FitsDate : List ℕ → Type 0
FitsDate text = (k : ℕ) → k < 10 → fits (get_or day_form k 0) (get_or text k 0) ≡ true

-- two texts have the same byte at a place
abbrev pub SameAt : List ℕ → List ℕ → ℕ → Type 0
SameAt s t k = get_or s k 0 ≡ get_or t k 0

-- two texts have the same two bytes from a place on
pub record SamePair (s t : List ℕ) (place : ℕ) : Type 0 where
  pub first : SameAt s t place
  pub second : SameAt s t (place + 1)

two_digits-bound : (text : List ℕ) (place : ℕ) → HasDigits text place → two_digits text place ≤ 99
two_digits-bound text place h = omega (arith, h.tens, h.ones)

two_digits-injective : (s t : List ℕ) (place : ℕ) → HasDigits s place → HasDigits t place → two_digits s place ≡ two_digits t place → SamePair s t place
two_digits-injective s t place h k e =
    record { first = omega (arith, h.tens, h.ones, k.tens, k.ones); second = omega (arith, h.tens, h.ones, k.tens, k.ones) }

digits_at : (text : List ℕ) (k : ℕ) → is_digit (get_or text k 0) ≡ true → is_digit (get_or text (k + 1) 0) ≡ true → HasDigits text k
digits_at text k e f = record { tens = is_digit-bounds _ e; ones = is_digit-bounds _ f }

-- two texts have the same ten bytes in front
pub record SameDate (s t : List ℕ) : Type 0 where
  pub century : SamePair s t 0
  pub year : SamePair s t 2
  pub first_dash : SameAt s t 4
  pub month : SamePair s t 5
  pub second_dash : SameAt s t 7
  pub day : SamePair s t 8

same_hundreds : (a b c d : ℕ) → b ≤ 99 → d ≤ 99 → 100 * a + b ≡ 100 * c + d → (a ≡ c) × (b ≡ d)
same_hundreds a b c d h k e = (omega arith, omega arith)

same_ten : (s t : List ℕ) → SameDate s t → table 10 (λ k. get_or s k 0) ≡ table 10 (λ k. get_or t k 0)
same_ten s t same =
    rw (same.century.first, same.century.second, same.year.first, same.year.second, same.first_dash, same.month.first, same.month.second, same.second_dash, same.day.first, same.day.second) refl

-- texts of one day have the same date
pub date_of_injective : (s t : List ℕ) (n : ℕ) → FitsDate s → FitsDate t → date_of s ≡ Some n → date_of t ≡ Some n → SameDate s t
date_of_injective s t n f g e e₂ =
    let s0 = digits_at s 0 (f 0 (omega arith)) (f 1 (omega arith)) in
    let s2 = digits_at s 2 (f 2 (omega arith)) (f 3 (omega arith)) in
    let s5 = digits_at s 5 (f 5 (omega arith)) (f 6 (omega arith)) in
    let s8 = digits_at s 8 (f 8 (omega arith)) (f 9 (omega arith)) in
    let t0 = digits_at t 0 (g 0 (omega arith)) (g 1 (omega arith)) in
    let t2 = digits_at t 2 (g 2 (omega arith)) (g 3 (omega arith)) in
    let t5 = digits_at t 5 (g 5 (omega arith)) (g 6 (omega arith)) in
    let t8 = digits_at t 8 (g 8 (omega arith)) (g 9 (omega arith)) in
    let same = civil_day_injective (100 * two_digits s 0 + two_digits s 2) (two_digits s 5) (two_digits s 8) (100 * two_digits t 0 + two_digits t 2) (two_digits t 5) (two_digits t 8) n e e₂ in
    let year = same_hundreds _ _ _ _ (two_digits-bound s 2 s2) (two_digits-bound t 2 t2) same.0 in
    record {
      century = two_digits-injective s t 0 s0 t0 year.0;
      year = two_digits-injective s t 2 s2 t2 year.1;
      first_dash = sym (eqb-true _ _ (f 4 (omega arith))) ∙ eqb-true _ _ (g 4 (omega arith));
      month = two_digits-injective s t 5 s5 t5 same.1;
      second_dash = sym (eqb-true _ _ (f 7 (omega arith))) ∙ eqb-true _ _ (g 7 (omega arith));
      day = two_digits-injective s t 8 s8 t8 same.2;
    }

-- a day has one text
pub day_of_injective : (s t : List ℕ) (n : ℕ) → day_of s ≡ Some n → day_of t ≡ Some n → s ≡ t
day_of_injective s t n e e₂ =
    let is = day_of-Some s n e in
    let is₂ = day_of-Some t n e₂ in
    let same = date_of_injective s t n (λ k h. fits_at day_form s k is.0 h) (λ k h. fits_at day_form t k is₂.0 h) is.1 is₂.1 in
    ten_bytes s n e ∙ same_ten s t same ∙ sym (ten_bytes t n e₂)

-- a day and a second of it that make a moment
pub record IsSum (date time : Option ℕ) (n : ℕ) : Type 0 where
  pub day : ℕ
  pub second : ℕ
  pub date_is : date ≡ Some day
  pub time_is : time ≡ Some second
  pub sum : 86400 * day + second ≡ n

sum-Some : (date time : Option ℕ) (n : ℕ) → option_and_then (λ day. option_map (λ second. 86400 * day + second) time) date ≡ Some n → IsSum date time n
sum-Some None time n e = absurd (none-some n e)
sum-Some (Some day) None n e = absurd (none-some n e)
sum-Some (Some day) (Some second) n e = record { day = day; second = second; date_is = refl; time_is = refl; sum = same_Some _ _ e }

-- an hour, a minute and a second that a clock shows
pub record IsClock (hour minute second n : ℕ) : Type 0 where
  pub hour_upto : hour ≤ 23
  pub minute_upto : minute ≤ 59
  pub second_upto : second ≤ 59
  pub sum : 3600 * hour + 60 * minute + second ≡ n

time-Some : (hour minute second n : ℕ) → cond (is_time hour minute second) (Some (3600 * hour + 60 * minute + second)) None ≡ Some n → IsClock hour minute second n
time-Some hour minute second n e =
    let is = cond_some (is_time hour minute second) (3600 * hour + 60 * minute + second) n e in
    let two = and_parts _ _ is.0 in
    let one = and_parts _ _ two.0 in
    record { hour_upto = leb-true _ _ one.0; minute_upto = leb-true _ _ one.1; second_upto = leb-true _ _ two.1; sum = is.1 }

-- texts of one time of day have the same digits
pub record SameTime (s t : List ℕ) : Type 0 where
  pub mark : SameAt s t 10
  pub hour : SamePair s t 11
  pub first_colon : SameAt s t 13
  pub minute : SamePair s t 14
  pub second_colon : SameAt s t 16
  pub second : SamePair s t 17

-- a text fits the signs of a moment's form
abbrev pub FitsMoment : List ℕ → Type 0
FitsMoment text = (k : ℕ) → k < 19 → fits (get_or moment_form k 0) (get_or text k 0) ≡ true

same_clock : (h m s h₂ m₂ s₂ n : ℕ) → IsClock h m s n → IsClock h₂ m₂ s₂ n → (h ≡ h₂) × (m ≡ m₂) × (s ≡ s₂)
same_clock h m s h₂ m₂ s₂ n a b = (omega arith, omega arith, omega arith)

clock_bound : (h m s n : ℕ) → IsClock h m s n → n < 86400
clock_bound h m s n a = omega arith

time_of_injective : (s t : List ℕ) (n : ℕ) → FitsMoment s → FitsMoment t → time_of s ≡ Some n → time_of t ≡ Some n → SameTime s t
time_of_injective s t n f g e e₂ =
    let s1 = digits_at s 11 (f 11 (omega arith)) (f 12 (omega arith)) in
    let s4 = digits_at s 14 (f 14 (omega arith)) (f 15 (omega arith)) in
    let s7 = digits_at s 17 (f 17 (omega arith)) (f 18 (omega arith)) in
    let t1 = digits_at t 11 (g 11 (omega arith)) (g 12 (omega arith)) in
    let t4 = digits_at t 14 (g 14 (omega arith)) (g 15 (omega arith)) in
    let t7 = digits_at t 17 (g 17 (omega arith)) (g 18 (omega arith)) in
    let same = same_clock _ _ _ _ _ _ n (time-Some (two_digits s 11) (two_digits s 14) (two_digits s 17) n e) (time-Some (two_digits t 11) (two_digits t 14) (two_digits t 17) n e₂) in
    record {
      mark = sym (eqb-true _ _ (f 10 (omega arith))) ∙ eqb-true _ _ (g 10 (omega arith));
      hour = two_digits-injective s t 11 s1 t1 same.0;
      first_colon = sym (eqb-true _ _ (f 13 (omega arith))) ∙ eqb-true _ _ (g 13 (omega arith));
      minute = two_digits-injective s t 14 s4 t4 same.1;
      second_colon = sym (eqb-true _ _ (f 16 (omega arith))) ∙ eqb-true _ _ (g 16 (omega arith));
      second = two_digits-injective s t 17 s7 t7 same.2;
    }

same_nineteen : (s t : List ℕ) → SameDate s t → SameTime s t → table 19 (λ k. get_or s k 0) ≡ table 19 (λ k. get_or t k 0)
same_nineteen s t date time =
    rw (date.century.first, date.century.second, date.year.first, date.year.second, date.first_dash, date.month.first, date.month.second, date.second_dash, date.day.first, date.day.second, time.mark, time.hour.first, time.hour.second, time.first_colon, time.minute.first, time.minute.second, time.second_colon, time.second.first, time.second.second) refl

-- a moment's form begins with a day's
date_in_moment : (text : List ℕ) → FitsMoment text → FitsDate text
date_in_moment text f k h =
    let same : get_or moment_form k 0 ≡ get_or day_form k 0 = get_or-append day_form time_form 0 k h in
    rw same at (f k (omega arith))

moment_of-Some : (text : List ℕ) (n : ℕ) → moment_of text ≡ Some n → (has_form moment_form text ≡ true) × IsSum (date_of text) (time_of text) n
unfolding moment_of
moment_of-Some text n e =
    let is = cond-Some (has_form moment_form text) (option_and_then (λ day. option_map (λ second. 86400 * day + second) (time_of text)) (date_of text)) n e in
    (is.0, sum-Some (date_of text) (time_of text) n is.1)

nineteen_bytes : (text : List ℕ) → has_form moment_form text ≡ true → text ≡ table 19 (λ k. get_or text k 0)
nineteen_bytes text e = list_is_table 19 text (sym (eqb-true _ _ (and_parts _ _ e).0))

same_day : (d x d₂ x₂ n : ℕ) → x < 86400 → x₂ < 86400 → 86400 * d + x ≡ n → 86400 * d₂ + x₂ ≡ n → (d₂ ≡ d) × (x₂ ≡ x)
same_day d x d₂ x₂ n h k e e₂ = (omega arith, omega arith)

time_of-bound : (text : List ℕ) (n : ℕ) → time_of text ≡ Some n → n < 86400
time_of-bound text n e =
    clock_bound _ _ _ n (time-Some (two_digits text 11) (two_digits text 14) (two_digits text 17) n e)

-- a moment has one text
pub moment_of_injective : (s t : List ℕ) (n : ℕ) → moment_of s ≡ Some n → moment_of t ≡ Some n → s ≡ t
moment_of_injective s t n e e₂ =
    let is = moment_of-Some s n e in
    let is₂ = moment_of-Some t n e₂ in
    let f : FitsMoment s = λ k h. fits_at moment_form s k is.0 h in
    let g : FitsMoment t = λ k h. fits_at moment_form t k is₂.0 h in
    let same = same_day is.1.day is.1.second is₂.1.day is₂.1.second n (time_of-bound s _ is.1.time_is) (time_of-bound t _ is₂.1.time_is) is.1.sum is₂.1.sum in
    let date = date_of_injective s t is.1.day (date_in_moment s f) (date_in_moment t g) is.1.date_is (is₂.1.date_is ∙ ap Some same.0) in
    let time = time_of_injective s t is.1.second f g is.1.time_is (is₂.1.time_is ∙ ap Some same.1) in
    nineteen_bytes s is.0 ∙ same_nineteen s t date time ∙ sym (nineteen_bytes t is₂.0)
