-- The texts of days, YYYY-MM-DD, and of moments, YYYY-MM-DDThh:mm:ss.
use Rattle.std.specs.Prelude.{ℕ, ◌+◌, ◌*◌, ◌-◌, ◌/◌, ◌%◌, Bool, ◌&&◌, ◌==◌, nat_le, List, [], ◌∷◌, ◌++◌, length, slice_index, codes, Option, Some, None, option_map, option_and_then, if◌then◌else◌}
use Rattle.std.specs.List.{list_all, zip}
use Rattle.calendar.specs.Calendar.{civil_day, is_time, year_of, month_of, day_of_month}

-- whether a byte is an ASCII digit
abbrev pub is_digit : ℕ → Bool
is_digit byte = nat_le 48 byte && nat_le byte 57

-- whether a byte may stand at a sign of a form: a digit at 0, and elsewhere the sign itself
abbrev pub fits : ℕ → ℕ → Bool
fits sign byte = if sign == 48 then is_digit byte else sign == byte

-- whether a text is as long as a form and fits it at each place
abbrev pub has_form : List ℕ → List ℕ → Bool
has_form form text =
    (length form == length text) && list_all (λ pair. fits pair.0 pair.1) (zip form text)

abbrev pub day_form : List ℕ
day_form = codes "0000-00-00"

abbrev pub moment_form : List ℕ
moment_form = codes "0000-00-00T00:00:00"

-- the number that the two digits at a place of a text spell
abbrev pub two_digits : List ℕ → ℕ → ℕ
two_digits text place = 10 * (slice_index text place - 48) + (slice_index text (place + 1) - 48)

-- the day of the date at the head of a text, if the calendar has it
abbrev pub date_of : List ℕ → Option ℕ
date_of text =
    civil_day (100 * two_digits text 0 + two_digits text 2) (two_digits text 5) (two_digits text 8)

-- the seconds from midnight to the time of day in a moment's text, if a clock shows it
abbrev pub time_of : List ℕ → Option ℕ
time_of text =
    let hour = two_digits text 11 in
    let minute = two_digits text 14 in
    let second = two_digits text 17 in
    if is_time hour minute second then Some (3600 * hour + 60 * minute + second) else None

-- the day that a text spells, if it spells one
unfoldable pub day_of : List ℕ → Option ℕ
day_of text = if has_form day_form text then date_of text else None

-- the moment that a text spells, if it spells one
unfoldable pub moment_of : List ℕ → Option ℕ
moment_of text =
    if has_form moment_form text
    then option_and_then (λ day. option_map (λ second. 86400 * day + second) (time_of text))
    (date_of text)
    else None

-- the two digits of a number below 100
abbrev pub two_digit_text : ℕ → List ℕ
two_digit_text number = (48 + number / 10) ∷ (48 + number % 10) ∷ []

-- the text of a day
unfoldable pub day_text : ℕ → List ℕ
day_text day =
    two_digit_text (year_of day / 100) ++ two_digit_text (year_of day % 100)
    ++ codes "-" ++ two_digit_text (month_of day) ++ codes "-" ++ two_digit_text (day_of_month day)

-- the text of a moment: that of its day, and the time on the clock
unfoldable pub moment_text : ℕ → List ℕ
moment_text moment =
    let second = moment % 86400 in
    day_text (moment / 86400) ++ codes "T" ++ two_digit_text (second / 3600)
    ++ codes ":" ++ two_digit_text (second / 60 % 60) ++ codes ":" ++ two_digit_text (second % 60)
