-- Numbers in the fields of records.
use Rattle.std.specs.Prelude.{ℕ, Bool, ◌&&◌, nat_le, List, length, Option, Some, None, if◌then◌else◌}
use Rattle.std.specs.Char.{is_ascii_digit}
use Rattle.std.specs.List.{list_all}
use Rattle.std.specs.Str.Parse.{digits_value}

-- 1 to 19 digits, and nothing else
abbrev pub is_spelled_number : List ℕ → Bool
is_spelled_number bytes =
    nat_le 1 (length bytes) && nat_le (length bytes) 19 && list_all is_ascii_digit bytes

-- the number that 1 to 19 digits write
abbrev pub decimal_of : List ℕ → Option ℕ
decimal_of bytes = if is_spelled_number bytes then Some (digits_value 10 bytes) else None

-- the number, if it lies between two others or is one of them
abbrev pub bounded : ℕ → ℕ → Option ℕ → Option ℕ
bounded low high None = None
bounded low high (Some number) =
    if nat_le low number && nat_le number high then Some number else None
