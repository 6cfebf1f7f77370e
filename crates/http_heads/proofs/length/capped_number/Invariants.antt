use Rattle.std.proofs.Common.{◌≡◌, ◌+◌, min, take}
use Rattle.std.specs.Str.Parse.{digits_value}
use Rattle.http_heads.specs.declared.length.TheConstants.{LONGEST_BODY}
use Rattle.http_heads.proofs.length.capped_number.Given as goal

-- The number is that of the digits so far.
abbrev pub invariant-loop-digit : goal.invariant-loop-digit
invariant-loop-digit l = l.number ≡ min (digits_value 10 (take l.digit-index l.digits)) (LONGEST_BODY + 1)
