-- The office's wall clock, over the words of `jiff_tz`.
use Rattle.std.specs.Prelude.{ℕ, ℤ, pos, ◌+ℤ◌, ◌-ℤ◌, ◌*ℤ◌, ◌≤ℤ◌, ◌<ℤ◌}
use Rattle.jiff_core.specs.Timestamp.{nanos_of_seconds}
use Rattle.jiff_tz.specs.PosixRule.{offset_at}
use Rattle.wall_clock.specs.Zones.{Zone}

-- the whole second that these nanoseconds lie in
pub record IsSecondOf (nanos second : ℤ) : Type 0 where
  pub begun : (second *ℤ pos 1_000_000_000) ≤ℤ nanos
  pub not_over : nanos <ℤ (second *ℤ pos 1_000_000_000 +ℤ pos 1_000_000_000)

-- what the zone's clock shows at an instant, in whole seconds since 1970-01-01T00:00:00 on it
abbrev pub ShowsSecond : Zone → ℤ → ℤ → Type 0
ShowsSecond zone nanos second =
    IsSecondOf (nanos +ℤ nanos_of_seconds (offset_at zone nanos).seconds) second

-- the seconds from 1970-01-01T00:00:00 to a moment, counted from 1900-01-01; negative before it
abbrev pub unix_seconds : ℕ → ℤ
unix_seconds moment = pos moment -ℤ pos 2_208_988_800

-- 2999-12-31T23:59:59
abbrev pub last_moment : ℕ
last_moment = 34712668799
