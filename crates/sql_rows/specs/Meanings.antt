-- What rows mean: a thing, or nothing.
use Rattle.std.specs.Prelude.{◌≡◌, List, [], ◌∷◌, Option, Some, None, Result}
use Rattle.vocabulary.specs.Agreement.{Agrees}
use Rattle.vocabulary.specs.OptionSteps.{◌>>=◌}
use Rattle.sqlite.specs.Order.{Row}
use Rattle.sql_rows.specs.declared.fault.RowError.{RowError}
use Rattle.sql_rows.specs.declared.fault.RowError.TheVariants.{Unreadable, Memory}

-- what is unreadable means nothing; where memory ran out, nothing is said
abbrev pub RowErrAgrees : {Y : Type 0} → RowError → Option Y → Type 0
RowErrAgrees Unreadable meaning = meaning ≡ None
RowErrAgrees Memory meaning = Unit {0}

-- what was returned, as contracts see it, is what is meant, unless memory ran out
abbrev pub RowAgrees : {X Y : Type 0} → (X → Y) → Result X RowError → Option Y → Type 0
RowAgrees seen read meaning = Agrees Some RowErrAgrees seen read meaning

-- what was returned, as contracts see it, is what is meant, and where that is nothing the fault is
-- `Unreadable`; no memory is asked for
abbrev pub RowAgreesExactly : {X Y : Type 0} → (X → Y) → Result X RowError → Option Y → Type 0
RowAgreesExactly seen read meaning =
    Agrees Some (λ fault meaning. (fault ≡ Unreadable) × (meaning ≡ None)) seen read meaning

-- what each row means, or nothing where one of them means nothing
abbrev pub all_meanings : {A : Type 0} → (Row → Option A) → List Row → Option (List A)
all_meanings means [] = Some []
all_meanings means (row ∷ rows) = do
  first ← means row
  rest ← all_meanings means rows
  Some (first ∷ rest)
