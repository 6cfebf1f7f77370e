-- The limits of a desk, by their numbers.
use Rattle.std.specs.Prelude.{◌≡◌}
use Rattle.desk_words.specs.declared.limits.TheConstants.{MOST_MEETINGS, MOST_SESSIONS, MOST_RESOLUTIONS, MOST_ROWS, MOST_SHARES, MOST_PENCE}
use Rattle.desk_words.specs.declared.limits.TheConstants.{MOST_APPOINTMENTS, MOST_AUTHORITIES, MOST_CASTS, MOST_CLOSED_DAYS, MOST_KEYS}
use Rattle.desk_words.specs.declared.limits.TheConstants.{HOURS_BEFORE_MEETING, HOURS_BEFORE_LATE_POLL, HOURS_UNTIL_LATE}

-- what each limit of lists and of holdings is
pub record OfficeLimitsAre : Type 0 where
  pub meetings : MOST_MEETINGS ≡ 100
  pub sessions : MOST_SESSIONS ≡ 10
  pub resolutions : MOST_RESOLUTIONS ≡ 50
  pub rows : MOST_ROWS ≡ 20000
  pub shares : MOST_SHARES ≡ 1000000000000
  pub pence : MOST_PENCE ≡ 1000000
  pub appointments : MOST_APPOINTMENTS ≡ 256
  pub authorities : MOST_AUTHORITIES ≡ 64
  pub casts : MOST_CASTS ≡ 1024
  pub closed_days : MOST_CLOSED_DAYS ≡ 2000
  pub keys : MOST_KEYS ≡ 40000

-- the hours of working time that the cutoffs go by (sections 327 and 330)
pub record HoursAre : Type 0 where
  pub before_meeting : HOURS_BEFORE_MEETING ≡ 48
  pub before_late_poll : HOURS_BEFORE_LATE_POLL ≡ 24
  pub until_late : HOURS_UNTIL_LATE ≡ 48
