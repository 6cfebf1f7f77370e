-- What a wall clock shows.
use Rattle.std.specs.Prelude.{ℕ, ℤ}
use Rattle.wall_clock.specs.Clock.{ShowsSecond, unix_seconds}
use Rattle.wall_clock.specs.Zones.{Zone}

-- a zone's clock shows the moment at some instant
abbrev pub IsShown : Zone → ℕ → Type 0
IsShown zone moment = (instant : ℤ) × ShowsSecond zone instant (unix_seconds moment)
