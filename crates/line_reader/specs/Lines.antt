-- The lines of an input.
use Rattle.std.specs.Prelude.{◌≡◌, ℕ, ◌-◌, ◌<◌, Bool, ◌==◌, nat_lt, List, [], ◌∷◌, count_by, length, slice_index, take, if◌then◌else◌}
use Rattle.std.specs.List.{position_or_len, before_first, after_first}
use Rattle.std.specs.Str.Lines.{lines}

-- a line feed
abbrev pub is_feed : ℕ → Bool
is_feed byte = byte == 10

-- how many line feeds stand among the bytes
abbrev pub feeds_in : List ℕ → ℕ
feeds_in bytes = count_by is_feed bytes

-- how many bytes stand before the first line feed, or all of them
abbrev pub feed_place : List ℕ → ℕ
feed_place bytes = position_or_len is_feed bytes

-- there is a line feed among the bytes
abbrev pub HasFeed : List ℕ → Type 0
HasFeed bytes = feed_place bytes < length bytes

-- the bytes, less one carriage return at their end
abbrev pub without_return : List ℕ → List ℕ
without_return bytes =
    if slice_index bytes (length bytes - 1) == 13 then take (length bytes - 1) bytes else bytes

-- what stands before the first line feed, less one carriage return right before it; all bytes where
-- there is no line feed
abbrev pub first_line : List ℕ → List ℕ
first_line bytes =
    if nat_lt (feed_place bytes) (length bytes)
    then without_return (before_first is_feed bytes)
    else bytes

-- what stands after the first line feed
abbrev pub after_line : List ℕ → List ℕ
after_line bytes = after_first is_feed bytes

-- all lines of an input, in order: its first line, and then those of what stands after it, until
-- nothing is left
abbrev pub lines_of : List ℕ → List (List ℕ)
lines_of bytes = lines bytes

-- nothing has no lines, and other bytes have their first line and then the lines of what stands
-- after it
abbrev pub TakesLinesFromFront : Type 0
TakesLinesFromFront =
    (lines_of [] ≡ [])
    ×
    ((bytes : List ℕ) → 0 < length bytes
    → lines_of bytes ≡ first_line bytes ∷ lines_of (after_line bytes))
