-- Files of closed days (section 1173).
use Rattle.std.specs.Prelude.{ℕ, suc, ◌==◌, nat_le, List, [], ◌∷◌, length, Result, Ok, ok_or, if◌then◌else◌}
use Rattle.std.specs.BTreeSet.{insert_key}
use Rattle.std.specs.Ordering.{nat_cmp}
use Rattle.csv.specs.Reading.{strip_bom}
use Rattle.calendar.specs.DateTexts.{day_of}
use Rattle.line_reader.specs.Lines.{lines_of}
use Rattle.desk_words.specs.declared.limits.TheConstants.{MOST_CLOSED_DAYS}
use Rattle.csv_import.specs.declared.fault.FileError.{FileError}
use Rattle.csv_import.specs.declared.fault.FileError.TheVariants.{BadRow}
use Rattle.csv_import.specs.declared.fault.Why.TheVariants as why
use Rattle.vocabulary.specs.ResultSteps.{ensure, ◌>>=◌}

-- the days so far with one day more at its place in the order, unless it is among them
abbrev pub with_day_among : List ℕ → ℕ → List ℕ
with_day_among found day = insert_key nat_cmp found day

-- the days so far, and one day more; there are at most `MOST_CLOSED_DAYS`
unfoldable pub with_day : ℕ → List ℕ → ℕ → Result (List ℕ) FileError
with_day line found day =
    ensure (nat_le (length (with_day_among found day)) MOST_CLOSED_DAYS) (BadRow line why.Rows)
    >>= λ room. Ok (with_day_among found day)

-- the days so far, and that of one line more; an empty line has none
unfoldable pub with_line : ℕ → List ℕ → List ℕ → Result (List ℕ) FileError
with_line line found text =
    if length text == 0
    then Ok found
    else ok_or (day_of text) (BadRow line why.Day) >>= λ day. with_day line found day

-- the different days of lines that are counted on from a number, after the days so far, up to the
-- first fault
abbrev pub days_in : ℕ → List ℕ → List (List ℕ) → Result (List ℕ) FileError
days_in line found [] = Ok found
days_in line found (text ∷ more) =
    with_line line found text >>= λ days. days_in (suc line) days more

-- the days that the bytes of a file spell, in order, each once, or its first fault
unfoldable pub day_file : List ℕ → Result (List ℕ) FileError
day_file bytes = days_in 1 [] (lines_of (strip_bom bytes))
