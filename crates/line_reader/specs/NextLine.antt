-- What the line reader holds, and what one call of it does.
use Rattle.std.specs.Prelude.{◌≡◌, ℕ, ◌+◌, ◌^◌, ◌<◌, ◌≤◌, List, [], Option, None, Some, length, ⊤}
use Rattle.std.specs.Io.KnownBytes.{prepend_known, IsAtEnd}
use Rattle.byte_io.specs.Counts.{one_more}
use Rattle.line_reader.specs.declared.outcome.NextLine.{NextLine}
use Rattle.line_reader.specs.declared.outcome.NextLine.TheVariants.{Whole, TooLong, End}
use Rattle.line_reader.specs.declared.outcome.ReadFault.{ReadFault}
use Rattle.line_reader.specs.declared.outcome.ReadFault.TheVariants.{Device, TooMuch}
use Rattle.line_reader.specs.LineState.{LineReading}
use Rattle.line_reader.specs.Lines.{first_line, after_line}

-- the most bytes that a line has
abbrev pub longest_line : ℕ
longest_line = 65536

-- the most bytes that an input has
abbrev pub longest_input : ℕ
longest_input = 2 ^ 24

-- the bytes that are still to be given as lines: those that were read ahead, and then those that
-- the source has left
abbrev pub unread : List ℕ → Option (List ℕ) → Option (List ℕ)
unread pending remaining = prepend_known pending remaining

-- the known bytes lost their first line, and what it is in `IsGiven`
abbrev pub TakesLine : Option (List ℕ) → Option (List ℕ) → (List ℕ → Type 0) → Type 0
TakesLine None new IsGiven = ⊤
TakesLine (Some bytes) None IsGiven = ⊥
TakesLine (Some bytes) (Some rest) IsGiven =
    (0 < length bytes) × (rest ≡ after_line bytes) × IsGiven (first_line bytes)

-- what a call gave of the unread bytes, and the line that the reader shows after it
abbrev pub NextIs : NextLine → Option (List ℕ) → Option (List ℕ) → List ℕ → Type 0
NextIs Whole old new line = (length line ≤ longest_line) × TakesLine old new (λ first. line ≡ first)
NextIs TooLong old new line = (line ≡ []) × TakesLine old new (λ first. longest_line < length first)
NextIs End old new line = (line ≡ []) × IsAtEnd old × IsAtEnd new

-- why a call failed: the source failed once in it, or more bytes came than an input has
abbrev pub HasCause : ReadFault → ℕ → ℕ → ℕ → Type 0
HasCause Device failures failures' taken = failures' ≡ one_more failures
HasCause TooMuch failures failures' taken = (failures' ≡ failures) × (longest_input < taken)

-- the bytes that were taken and those that are known to remain are as many as before
abbrev pub SameWhole : ℕ → Option (List ℕ) → ℕ → Option (List ℕ) → Type 0
SameWhole taken None taken' new = ⊤
SameWhole taken (Some old) taken' None = ⊥
SameWhole taken (Some old) taken' (Some new) = taken' + length new ≡ taken + length old

-- more bytes were given than before: those that were taken, less those that are still pending
abbrev pub MovesOn : LineReading → LineReading → Type 0
MovesOn old new = old.taken + length new.pending < new.taken + length old.pending
