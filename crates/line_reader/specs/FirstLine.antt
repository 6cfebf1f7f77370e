-- How the reading towards the end of a line ended.
use Rattle.std.specs.Prelude.{◌≡◌, ℕ, ◌+◌, ◌<◌, ◌≤◌, ◌⊎◌, List, [], ◌++◌, Option, None, Some, length, ⊤}
use Rattle.std.specs.Io.KnownBytes.{Keeps, IsAtEnd}
use Rattle.line_reader.specs.LineState.{LineReading}
use Rattle.line_reader.specs.Lines.{feed_place, first_line, after_line}
use Rattle.line_reader.specs.NextLine.{unread, longest_line, SameWhole}
use Rattle.line_reader.specs.declared.outcome.NextLine.{NextLine}
use Rattle.line_reader.specs.declared.outcome.NextLine.TheVariants.{Whole, TooLong, End}
use Rattle.line_reader.specs.declared.reader.Front.{Front}
use Rattle.line_reader.specs.declared.reader.Front.TheVariants.{Feed, Long, Ended}

-- the pending bytes hold a line feed, or they begin a line that is too long, or they are the last
-- ones
abbrev pub LineFront : Front → List ℕ → Option (List ℕ) → Type 0
LineFront (Feed place) pending remaining = (place ≡ feed_place pending) × (place < length pending)
LineFront Long pending remaining = (feed_place pending ≡ length pending) × (65538 ≤ length pending)
LineFront Ended pending remaining =
    (feed_place pending ≡ length pending) × (length pending < 65538) × IsAtEnd remaining

-- the reader read on, and gave nothing
pub record ReadsOn (old new : LineReading) (remaining left : Option (List ℕ)) (passed passed' : ℕ)
    : Type 0 where
  pub unread_preserved : Keeps (unread old.pending remaining) (unread new.pending left)
  pub counted : new.taken + passed ≡ old.taken + passed'
  pub whole : SameWhole old.taken remaining new.taken left
  pub none_given : new.taken + length old.pending ≡ old.taken + length new.pending

-- the first line of the pending bytes was given, and they lost it
abbrev pub GivesFirst : NextLine → List ℕ → List ℕ → List ℕ → Type 0
GivesFirst Whole old new line =
    (length line ≤ longest_line) × (line ≡ first_line old) × (new ≡ after_line old)
GivesFirst TooLong old new line =
    (line ≡ []) × (longest_line < length (first_line old)) × (new ≡ after_line old)
GivesFirst End old new line = ⊥

-- the first line is too long, before and after, and what stands behind it is the same
pub record StaysTooLong (bytes rest : List ℕ) : Type 0 where
  pub long_before : longest_line < length (first_line bytes)
  pub long_after : longest_line < length (first_line rest)
  pub same_behind : after_line rest ≡ after_line bytes

-- the same lines are still to come: the known bytes are the same, or lost some of a first line that
-- is too long
abbrev pub SameLines : Option (List ℕ) → Option (List ℕ) → Type 0
SameLines None new = ⊤
SameLines (Some bytes) None = ⊥
SameLines (Some bytes) (Some rest) = (rest ≡ bytes) ⊎ StaysTooLong bytes rest

-- the known bytes lost some bytes of the first line at their front, and no line feed
abbrev pub StaysInLine : Option (List ℕ) → Option (List ℕ) → Type 0
StaysInLine None new = ⊤
StaysInLine (Some bytes) None = ⊥
StaysInLine (Some bytes) (Some rest) =
    (lost : List ℕ) × (bytes ≡ lost ++ rest) × (feed_place lost ≡ length lost)

-- the known bytes lost their first line
abbrev pub LosesLine : Option (List ℕ) → Option (List ℕ) → Type 0
LosesLine None new = ⊤
LosesLine (Some bytes) None = ⊥
LosesLine (Some bytes) (Some rest) = rest ≡ after_line bytes
