-- Working days by weekdays, working seconds by days, and the search for a second.
use Rattle.std.proofs.Common.{◌≡◌, ℕ, ◌+◌, ◌*◌, ◌-◌, ◌/◌, ◌%◌, ◌<◌, ◌≤◌, true, false, ◌&&◌, List, Some, None, ap, arith, inl, inr}
use Rattle.std.proofs.lemmas.Bool.{cases_Bool, cases_lt, le-leb, lt-leb}
use Rattle.office_days.specs.WorkingDays.{numbers_that, is_weekday, is_closed_day, is_working, working_days, work, leaves_hours, back, IsBack}
use Rattle.office_days.specs.DaySearch.{IsBracket, IsLatest}
use Rattle.office_days.proofs.Counting.{numbers_that-split, numbers_that-parts, numbers_that-bound, numbers_that-by_days, numbers_that-day_passes, numbers_that-day_fails, numbers_that-none_between, greatest_that-is, greatest_that-none}

-- the weekdays up to a day are those before another, the working days from there on and the closed weekdays
pub weekdays-parts : (closed : List ℕ) (from to : ℕ) → from ≤ to
    → numbers_that is_weekday 0 from + (working_days closed from to + numbers_that (λ day. is_weekday day && is_closed_day closed day) from to) ≡ numbers_that is_weekday 0 to
weekdays-parts closed from to h =
    omega (arith, numbers_that-split is_weekday 0 from to (omega arith) h, numbers_that-parts is_weekday (is_closed_day closed) from to)

-- the working seconds of a day before one of its seconds
pub work-working_day : (closed : List ℕ) (second : ℕ) → is_working closed (second / 86400) ≡ true → work closed (86400 * (second / 86400)) second ≡ second % 86400
work-working_day closed second passes =
    omega (arith, numbers_that-day_passes (is_working closed) (second / 86400) (86400 * (second / 86400)) second passes (omega arith) (omega arith) (omega arith))

pub work-other_day : (closed : List ℕ) (second : ℕ) → is_working closed (second / 86400) ≡ false → work closed (86400 * (second / 86400)) second ≡ 0
work-other_day closed second fails =
    numbers_that-day_fails (is_working closed) (second / 86400) (86400 * (second / 86400)) second fails (omega arith) (omega arith)

-- the working seconds between two seconds, by the working days between their days
pub record IsByDays (closed : List ℕ) (from to : ℕ) : Type 0 where
  pub is : 86400 * working_days closed (from / 86400) (to / 86400) + work closed (86400 * (to / 86400)) to ≡ work closed (86400 * (from / 86400)) from + work closed from to
  pub days : 86400 * working_days closed (from / 86400) (to / 86400) ≤ to
  pub sum : 86400 * working_days closed (from / 86400) (to / 86400) + work closed (86400 * (to / 86400)) to ≤ to

pub work-by_days : (closed : List ℕ) (from to : ℕ) → from ≤ to → IsByDays closed from to
work-by_days closed from to h =
    let ordered : from / 86400 ≤ to / 86400 = omega arith in
    let few = numbers_that-bound (is_working closed) (from / 86400) (to / 86400) ordered in
    let rest = numbers_that-bound (λ second. is_working closed (second / 86400)) (86400 * (to / 86400)) to (omega arith) in
    record { is = numbers_that-by_days (is_working closed) from to h; days = omega (arith, few); sum = omega (arith, few, rest) }

-- no more working time lies after a later second
pub work-later : (closed : List ℕ) (from mid to : ℕ) → from ≤ mid → mid ≤ to → work closed mid to ≤ work closed from to
work-later closed from mid to h k = omega (arith, numbers_that-split (λ second. is_working closed (second / 86400)) from mid to h k)

-- ---- the last second that leaves enough

-- within a working day each second that passes leaves one second less
work-in_day : (closed : List ℕ) (day second end : ℕ) → is_working closed day ≡ true → 86400 * day ≤ second → second ≤ 86400 * day + 86400 → second ≤ end
    → work closed second end + second ≡ work closed (86400 * day) end + 86400 * day
work-in_day closed day second end passes low high upto =
    omega (arith, numbers_that-split (λ s. is_working closed (s / 86400)) (86400 * day) second end low upto, numbers_that-day_passes (is_working closed) day (86400 * day) second passes (omega arith) low high)

-- a day that is no working day leaves at its end what it leaves at its beginning
work-past_day : (closed : List ℕ) (day second end : ℕ) → is_working closed day ≡ false → 86400 * day ≤ second → second ≤ 86400 * day + 86400 → second ≤ end
    → work closed second end ≡ work closed (86400 * day) end
work-past_day closed day second end fails low high upto =
    omega (arith, numbers_that-split (λ s. is_working closed (s / 86400)) (86400 * day) second end low upto, numbers_that-day_fails (is_working closed) day (86400 * day) second fails (omega arith) high)

-- the last day whose beginning leaves enough
record IsLastDay (closed : List ℕ) (wanted end day : ℕ) : Type 0 where
  pub within : day ≤ end / 86400
  pub leaves : wanted ≤ work closed (86400 * day) end
  pub last : (later : ℕ) → day < later → later ≤ end / 86400 → work closed (86400 * later) end < wanted

-- at the end of that day too little is left, where the day ends in time
few_next : (closed : List ℕ) (wanted end day : ℕ) → IsLastDay closed wanted end day → 86400 * day + 86400 ≤ end → work closed (86400 * day + 86400) end < wanted
few_next closed wanted end day is upto =
    let next : 86400 * (day + 1) ≡ 86400 * day + 86400 = omega arith in
    omega (arith, is.last (day + 1) (omega arith) (omega arith), ap (λ s. work closed s end) next)

-- something is wanted, so that day is a working day
last_day_works : (closed : List ℕ) (wanted end day : ℕ) → 0 < wanted → IsLastDay closed wanted end day → is_working closed day ≡ true
last_day_works closed wanted end day some is =
    elim (cases_Bool (is_working closed day)) [
      | inl passes ↦ passes
      | inr fails ↦
          elim (cases_lt end (86400 * day + 86400)) [
            | inl ends ↦ absurd (omega (arith, work-past_day closed day end end fails (omega (arith, is.within)) (omega arith) (omega arith), numbers_that-none_between (λ s. is_working closed (s / 86400)) end end (omega arith), is.leaves))
            | inr goes_on ↦ absurd (omega (arith, work-past_day closed day (86400 * day + 86400) end fails (omega arith) (omega arith) goes_on, few_next closed wanted end day is goes_on, is.leaves))
          ]
    ]

-- what the beginning of that day leaves beyond what is wanted lies within the day and before the end
surplus_within : (closed : List ℕ) (wanted end day : ℕ) → 0 < wanted → IsLastDay closed wanted end day
    → (86400 * day + work closed (86400 * day) end ≤ wanted + end) × (work closed (86400 * day) end ≤ wanted + 86400)
surplus_within closed wanted end day some is =
    let works = last_day_works closed wanted end day some is in
    elim (cases_lt end (86400 * day + 86400)) [
      | inl ends ↦
          let all = work-in_day closed day end end works (omega (arith, is.within)) (omega arith) (omega arith) in
          let nothing = numbers_that-none_between (λ s. is_working closed (s / 86400)) end end (omega arith) in
          (omega (arith, all, nothing), omega (arith, all, nothing))
      | inr goes_on ↦
          let rest = work-in_day closed day (86400 * day + 86400) end works (omega arith) (omega arith) goes_on in
          let few = few_next closed wanted end day is goes_on in
          (omega (arith, rest, few), omega (arith, rest, few))
    ]

-- a second of that day, or later
later_few : (closed : List ℕ) (wanted end day later : ℕ) → 0 < wanted → IsLastDay closed wanted end day → 86400 * day + work closed (86400 * day) end < later + wanted → later ≤ end
    → work closed later end < wanted
later_few closed wanted end day later some is past upto =
    let works = last_day_works closed wanted end day some is in
    elim (cases_lt (86400 * day + 86400) later) [
      | inl beyond ↦ omega (arith, few_next closed wanted end day is (omega arith), work-later closed (86400 * day + 86400) later end (omega arith) upto)
      | inr inside ↦ omega (arith, is.leaves, work-in_day closed day later end works (omega (arith, is.leaves)) inside upto)
    ]

latest_in_day : (closed : List ℕ) (wanted end day found : ℕ) → 0 < wanted → IsLastDay closed wanted end day → found + wanted ≡ 86400 * day + work closed (86400 * day) end
    → IsLatest closed wanted end found
latest_in_day closed wanted end day found some is sum =
    let bounds = surplus_within closed wanted end day some is in
    let at = work-in_day closed day found end (last_day_works closed wanted end day some is) (omega (arith, is.leaves)) (omega (arith, bounds.1)) (omega (arith, bounds.0)) in
    record {
      within = omega (arith, bounds.0);
      leaves = omega (arith, at, is.leaves);
      latest = λ later after upto. later_few closed wanted end day later some is (omega arith) upto;
    }

-- so it is in a bracket of two days that follow each other
pub latest_in_bracket : (closed : List ℕ) (wanted end day left too_late : ℕ) → 0 < wanted → IsBracket closed wanted end day left too_late → too_late ≡ day + 1
    → IsLatest closed wanted end (86400 * day + (left - wanted))
latest_in_bracket closed wanted end day left too_late some bracket next =
    let is : IsLastDay closed wanted end day =
    record {
      within = omega (arith, bracket.within, next);
      leaves = omega (arith, bracket.is, bracket.enough);
      last = λ later after upto. bracket.few later (omega (arith, next)) upto;
    } in
    latest_in_day closed wanted end day (86400 * day + (left - wanted)) some is (omega (arith, bracket.is, bracket.enough))

-- ---- back

-- it is the greatest moment that leaves the hours
pub back-is : (closed : List ℕ) (hours moment start : ℕ) → IsBack closed hours moment start → back closed hours moment ≡ Some start
back-is closed hours moment start is =
    greatest_that-is (leaves_hours closed hours moment) moment start is.at_or_before
    (le-leb (3600 * hours) (work closed start moment) is.leaves)
    (λ later after upto. lt-leb (3600 * hours) (work closed later moment) (is.greatest later after upto))

-- where no moment leaves them there is none
pub back-none : (closed : List ℕ) (hours moment : ℕ) → ((start : ℕ) → start ≤ moment → work closed start moment < 3600 * hours) → back closed hours moment ≡ None
back-none closed hours moment none =
    greatest_that-none (leaves_hours closed hours moment) moment (λ start upto. lt-leb (3600 * hours) (work closed start moment) (none start upto))

-- where not even the first moment leaves them, none does
pub few_from_first : (closed : List ℕ) (wanted moment : ℕ) → work closed 0 moment < wanted → (start : ℕ) → start ≤ moment → work closed start moment < wanted
few_from_first closed wanted moment few start upto = omega (arith, work-later closed 0 start moment (omega arith) upto)
