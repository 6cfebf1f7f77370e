-- Places, which are the numbers of a member's shares, and ranges of them.
use Rattle.std.specs.Prelude.{ℕ, zero, suc, ◌+◌, Bool, ◌&&◌, nat_le, Option, Some, None, if◌then◌else◌}
use Rattle.vocabulary.specs.declared.range.TheConstants.{MOST_PLACES}

-- the places from the first to the last, both included
pub record Places : Type 0 where
  pub from : ℕ
  pub to : ℕ

-- whether these are the ends of a range: from 1, in order, and up to the highest place
abbrev pub is_range : ℕ → ℕ → Bool
is_range from to = nat_le 1 from && nat_le from to && nat_le to MOST_PLACES

-- the range with these ends, if they are those of a range
abbrev pub range_of : ℕ → ℕ → Option Places
range_of from to = if is_range from to then Some (record { from = from; to = to }) else None

-- whether a range holds a place
abbrev pub holds : Places → ℕ → Bool
holds range place = nat_le range.from place && nat_le place range.to

-- how many of the places 1 to n pass a test
abbrev pub places_that : (ℕ → Bool) → ℕ → ℕ
places_that test zero = 0
places_that test (suc n) = places_that test n + (if test (suc n) then 1 else 0)
