use Rattle.std.proofs.Common.{◌≡◌, true, take}
use Rattle.std.specs.Char.{is_ascii_digit}
use Rattle.std.specs.List.{list_all}
use Rattle.std.specs.Str.Parse.{digits_value}
use Rattle.csv_import.proofs.number.read_number.Given as goal

-- The bytes so far are digits, and this is the number that they write.
abbrev pub invariant-loop-byte : goal.invariant-loop-byte
invariant-loop-byte l = (list_all is_ascii_digit (take l.byte-index l.bytes) ≡ true) × (l.number ≡ digits_value 10 (take l.byte-index l.bytes))
