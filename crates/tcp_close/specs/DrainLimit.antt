-- The limit by its number.
use Rattle.std.specs.Prelude.{◌≡◌}
use Rattle.tcp_close.specs.declared.ending.TheConstants.{MOST_DRAINED}

-- what the limit is
abbrev pub LimitIs : Type 0
LimitIs = MOST_DRAINED ≡ 1048576
