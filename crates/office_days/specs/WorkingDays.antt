-- Working days and working time. Days are counted from 1900-01-01, a Monday, and moments in seconds
-- from the first second of that day.
use Rattle.std.specs.Prelude.{ℕ, zero, suc, ◌+◌, ◌*◌, ◌/◌, ◌%◌, ◌<◌, ◌≤◌, Bool, not, ◌&&◌, ◌==◌, nat_le, nat_lt, List, Option, Some, None, if◌then◌else◌}
use Rattle.std.specs.List.{list_any}
use Rattle.desk_words.specs.ViewTypes.{Day, Moment}
use Rattle.desk_words.specs.declared.limits.TheConstants.{HOURS_UNTIL_LATE}

-- how many of the numbers from the first up to and without the second pass a test
unfoldable pub numbers_that : (ℕ → Bool) → ℕ → ℕ → ℕ
numbers_that test from zero = 0
numbers_that test from (suc n) =
    numbers_that test from n + (if nat_le from n && test n then 1 else 0)

-- the greatest number up to another that passes a test, if there is one
unfoldable pub greatest_that : (ℕ → Bool) → ℕ → Option ℕ
greatest_that test zero = if test zero then Some zero else None
greatest_that test (suc n) = if test (suc n) then Some (suc n) else greatest_that test n

-- no Saturday and no Sunday: one of the first five days of a week that begins on a Monday
abbrev pub is_weekday : Day → Bool
is_weekday day = nat_lt (day % 7) 5

-- the list of closed days has this day
abbrev pub is_closed_day : List Day → Day → Bool
is_closed_day closed day = list_any (λ other. day == other) closed

-- a working day is no Saturday, no Sunday and not closed (section 1173)
abbrev pub is_working : List Day → Day → Bool
is_working closed day = is_weekday day && not (is_closed_day closed day)

-- a working second is a second whose day is a working day
abbrev pub is_working_second : List Day → Moment → Bool
is_working_second closed second = is_working closed (second / 86400)

-- the number of working days from a day up to and without another
abbrev pub working_days : List Day → Day → Day → ℕ
working_days closed from to = numbers_that (is_working closed) from to

-- working time: the number of working seconds from a moment up to and without another (section
-- 327(3))
abbrev pub work : List Day → Moment → Moment → ℕ
work closed from to = numbers_that (is_working_second closed) from to

-- a poll is late if more than `HOURS_UNTIL_LATE` hours of working time lie between its order and
-- its taking (sections 327 and 330; counted as in 327(3))
abbrev pub is_late : List Day → Moment → Moment → Bool
is_late closed ordered take = nat_lt (3600 * HOURS_UNTIL_LATE) (work closed ordered take)

-- that many hours of working time lie between this moment and a later one (section 327(3))
abbrev pub leaves_hours : List Day → ℕ → Moment → Moment → Bool
leaves_hours closed hours moment start = nat_le (3600 * hours) (work closed start moment)

-- the greatest moment, up to another, from which on that many hours of working time are left before
-- the other (section 327(3))
abbrev pub back : List Day → ℕ → Moment → Option Moment
back closed hours moment = greatest_that (leaves_hours closed hours moment) moment

-- this moment, at or before another, leaves that many hours of working time before the other, and
-- no later one does
pub record IsBack (closed : List Day) (hours : ℕ) (moment start : Moment) : Type 0 where
  pub at_or_before : start ≤ moment
  pub leaves : 3600 * hours ≤ work closed start moment
  pub greatest : (later : Moment) → start < later → later ≤ moment
      → work closed later moment < 3600 * hours
