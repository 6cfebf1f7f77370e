-- The length of the body that a head announces.
use Rattle.std.specs.Prelude.{ℕ, Bool, ◌&&◌, nat_lt, nat_le, List, [], ◌∷◌, length, if◌then◌else◌, codes}
use Rattle.std.specs.List.{list_all}
use Rattle.std.specs.Char.{is_ascii_digit}
use Rattle.std.specs.Str.Parse.{digits_value}
use Rattle.http_heads.specs.Fields.{values_of}
use Rattle.http_heads.specs.declared.length.BodyLength.{BodyLength}
use Rattle.http_heads.specs.declared.length.BodyLength.TheVariants.{Bytes, TooLarge, Unreadable}
use Rattle.http_heads.specs.declared.length.TheConstants.{LONGEST_BODY}

-- one or more digits, and nothing else
abbrev pub is_number : List ℕ → Bool
is_number value = nat_lt 0 (length value) && list_all is_ascii_digit value

-- a number of bytes, up to the limit
abbrev pub length_within_limit : ℕ → BodyLength
length_within_limit n = if nat_le n LONGEST_BODY then Bytes n else TooLarge

-- the length that one value gives
abbrev pub length_in : List ℕ → BodyLength
length_in value =
    if is_number value then length_within_limit (digits_value 10 value) else Unreadable

-- the length that the values of `Content-Length` give
abbrev pub length_given : List (List ℕ) → BodyLength
length_given [] = Bytes 0
length_given (value ∷ []) = length_in value
length_given (value ∷ next ∷ more) = Unreadable

-- a length past the limit stays one beside a `Transfer-Encoding`; every other is unreadable there
abbrev pub length_with_encoding : List (List ℕ) → BodyLength → BodyLength
length_with_encoding [] given = given
length_with_encoding (value ∷ more) (Bytes n) = Unreadable
length_with_encoding (value ∷ more) TooLarge = TooLarge
length_with_encoding (value ∷ more) Unreadable = Unreadable

-- the length that the fields of a head announce
abbrev pub body_length : List (List ℕ × List ℕ) → BodyLength
body_length fields =
    length_with_encoding (values_of (codes "transfer-encoding") fields)
    (length_given (values_of (codes "content-length") fields))
