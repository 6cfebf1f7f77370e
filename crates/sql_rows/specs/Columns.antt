-- What single columns of a row mean, and what some of them mean one behind the other.
use Rattle.std.specs.Prelude.{◌≡◌, ◌+◌, ℕ, List, [], ◌∷◌, ◌++◌, Option, Some, length}
use Rattle.vocabulary.specs.Names.{meeting_of, party_of}
use Rattle.vocabulary.specs.OptionSteps.{◌>>=◌}
use Rattle.sqlite.specs.Cast.{cast}
use Rattle.sqlite.specs.Kind.{Kind}
use Rattle.sqlite.specs.Order.{Row, column}
use Rattle.sqlite.specs.declared.types.Value.{Value}
use Rattle.sql_rows.specs.declared.stored_records.InMeeting.{InMeeting}
use Rattle.sql_rows.specs.ColumnValues.{integer_of, moment_of_number, natural_value, parsed_of}

-- ---- what is read

-- a meeting's name
abbrev pub meeting_at : Row → ℕ → Option (List ℕ)
meeting_at cells at = parsed_of meeting_of (column cells at)

-- a party's name
abbrev pub party_at : Row → ℕ → Option (List ℕ)
party_at cells at = parsed_of party_of (column cells at)

-- a number, which is not negative
abbrev pub number_at : Row → ℕ → Option ℕ
number_at cells at = natural_value (column cells at)

-- a moment
abbrev pub moment_value : Value → Option ℕ
moment_value value = integer_of value >>= moment_of_number

abbrev pub moment_at : Row → ℕ → Option ℕ
moment_at cells at = moment_value (column cells at)

-- two things, where there are both
abbrev pub two : {A B : Type 0} → Option A → Option B → Option (A × B)
two first second = do
  a ← first
  b ← second
  Some (a, b)

-- what two parts of a row mean, of which the second stands so many columns behind the first
abbrev pub both : {A B : Type 0} → (Row → ℕ → Option A) → ℕ → (Row → ℕ → Option B) → Row → ℕ
    → Option (A × B)
both first width second cells at = two (first cells at) (second cells (at + width))

-- the same where the first is one column
infixr 4 ◌▸◌
abbrev pub ◌▸◌ : {A B : Type 0} → (Row → ℕ → Option A) → (Row → ℕ → Option B) → Row → ℕ
    → Option (A × B)
first ▸ second = both first 1 second

-- what a row of the meetings means: a meeting in its first column, and what is made of the others
abbrev pub in_meeting : {P A : Type 0} → (Row → ℕ → Option P) → (P → A) → Row → Option (InMeeting A)
in_meeting means of cells = do
  parts ← (meeting_at ▸ means) cells 0
  Some (record { meeting = parts.0; item = of parts.1 })

-- ---- what is written

-- columns of these kinds keep these values as they are
abbrev pub Stay : List Kind → Row → Type 0
Stay [] [] = Unit {0}
Stay [] (value ∷ values) = ⊥
Stay (kind ∷ kinds) [] = ⊥
Stay (kind ∷ kinds) (value ∷ values) = (cast kind value ≡ value) × Stay kinds values

-- values for columns of these kinds were put behind the others, and mean this
pub record IsPut {A : Type 0} (width : ℕ) (kinds : List Kind) (means : Row → ℕ → Option A) (x : A)
    (old new : Row) : Type 0 where
  pub values : Row
  pub as_many : length values ≡ width
  pub added : new ≡ old ++ values
  pub stay : Stay kinds values
  pub mean : (before after : Row) → means (before ++ values ++ after) (length before) ≡ Some x
