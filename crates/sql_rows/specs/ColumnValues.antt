-- What stands in a column of a row.
use Rattle.std.specs.Prelude.{ℕ, ℤ, pos, negsuc, ◌+ℤ◌, Bool, true, false, ◌==◌, nat_le, List, Option, Some, None, if◌then◌else◌}
use Rattle.std.specs.Str.{is_utf8}
use Rattle.sqlite.specs.declared.types.Value.{Value}
use Rattle.sqlite.specs.declared.types.Value.TheVariants.{Null, Int, Real, Text, Blob}
use Rattle.sqlite.specs.Order.{Row, column}
use Rattle.vocabulary.specs.PlainTexts.{is_plain_text}
use Rattle.vocabulary.specs.OptionSteps.{◌>>=◌}

-- the bytes of a text
abbrev pub bytes_of : Value → Option (List ℕ)
bytes_of (Text bytes) = Some bytes
bytes_of Null = None
bytes_of (Int n) = None
bytes_of (Real x) = None
bytes_of (Blob bytes) = None

-- a whole number
abbrev pub integer_of : Value → Option ℤ
integer_of (Int n) = Some n
integer_of Null = None
integer_of (Real x) = None
integer_of (Text bytes) = None
integer_of (Blob bytes) = None

-- a number that is not negative
abbrev pub natural_of : ℤ → Option ℕ
natural_of (pos n) = Some n
natural_of (negsuc n) = None

-- the bytes, if they are UTF-8
abbrev pub string_of : List ℕ → Option (List ℕ)
string_of bytes = if is_utf8 bytes then Some bytes else None

-- the number, if it is at most the highest
abbrev pub up_to : ℕ → ℕ → Option ℕ
up_to highest n = if nat_le n highest then Some n else None

-- no or yes, which is 0 or 1
abbrev pub flag_of : ℕ → Option Bool
flag_of n = if n == 0 then Some false else if n == 1 then Some true else None

-- the text, if it has the form of one
abbrev pub plain_text_of : List ℕ → Option (List ℕ)
plain_text_of string = if is_plain_text string then Some string else None

-- the bytes of a text that is UTF-8
abbrev pub word_of : Value → Option (List ℕ)
word_of value = bytes_of value >>= string_of

-- what the bytes of a text spell
abbrev pub parsed_of : {A : Type 0} → (List ℕ → Option A) → Value → Option A
parsed_of reading value = bytes_of value >>= reading

-- what a word or a text reads as, which is UTF-8
abbrev pub parsed_word_of : {A : Type 0} → (List ℕ → Option A) → Value → Option A
parsed_word_of reading value = word_of value >>= reading

-- a number that is not negative
abbrev pub natural_value : Value → Option ℕ
natural_value value = integer_of value >>= natural_of

-- what the bytes in a column spell
unfoldable pub parsed_in : {A : Type 0} → (List ℕ → Option A) → Row → ℕ → Option A
parsed_in reading row at = parsed_of reading (column row at)

-- the word or the text in a column, which is UTF-8
unfoldable pub parsed_word_in : {A : Type 0} → (List ℕ → Option A) → Row → ℕ → Option A
parsed_word_in reading row at = parsed_word_of reading (column row at)

-- the number in a column, which is not negative
unfoldable pub number_in : Row → ℕ → Option ℕ
number_in row at = natural_value (column row at)

-- no or yes
unfoldable pub flag_in : Row → ℕ → Option Bool
flag_in row at = number_in row at >>= flag_of

-- the day of a number of days since 1970-01-01, which is day 25567 of those since 1900-01-01
abbrev pub unix_day : ℤ → Option ℕ
unix_day n = natural_of (n +ℤ pos 25567) >>= up_to 401766

-- the moment of a number of seconds since 1970-01-01T00:00:00, which is 2208988800 seconds after
-- 1900-01-01T00:00:00
abbrev pub moment_of_number : ℤ → Option ℕ
moment_of_number n = natural_of (n +ℤ pos 2208988800) >>= up_to 34712668799

-- the day in a column
unfoldable pub day_in : Row → ℕ → Option ℕ
day_in row at = integer_of (column row at) >>= unix_day

-- the moment in a column
unfoldable pub moment_in : Row → ℕ → Option ℕ
moment_in row at = integer_of (column row at) >>= moment_of_number

-- the moment in a column, or none where it is NULL
abbrev pub some_moment_of : Value → Option (Option ℕ)
some_moment_of Null = Some None
some_moment_of (Int n) = moment_of_number n >>= λ moment. Some (Some moment)
some_moment_of (Real x) = None
some_moment_of (Text bytes) = None
some_moment_of (Blob bytes) = None

-- the moment in a column, or none where it is NULL
unfoldable pub some_moment_in : Row → ℕ → Option (Option ℕ)
some_moment_in row at = some_moment_of (column row at)

-- whether a column is NULL
abbrev pub is_null : Value → Bool
is_null Null = true
is_null (Int n) = false
is_null (Real x) = false
is_null (Text bytes) = false
is_null (Blob bytes) = false

-- what a word or a text reads as, where it is UTF-8
abbrev pub read_word : {A : Type 0} → (List ℕ → Option A) → List ℕ → Option A
read_word reading bytes = string_of bytes >>= reading
