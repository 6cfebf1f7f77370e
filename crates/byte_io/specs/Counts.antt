-- The counts of devices.
use Rattle.std.specs.Prelude.{ℕ, ◌+◌, ◌-◌, ◌^◌, min}

-- a count and one more, up to `u64::MAX`, where it stays
abbrev pub one_more : ℕ → ℕ
one_more n = min (n + 1) (2 ^ 64 - 1)

-- two counts together, up to `u64::MAX`
abbrev pub total_count : ℕ → ℕ → ℕ
total_count m n = min (m + n) (2 ^ 64 - 1)
