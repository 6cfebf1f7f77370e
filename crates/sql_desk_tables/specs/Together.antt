-- Rows of a register that are added by one statement.
use Rattle.std.specs.Prelude.{◌≡◌, ℕ, ℤ, List, [], ◌∷◌, ◌++◌, map, Some}
use Rattle.sqlite.specs.Order.{Row}
use Rattle.sqlite.specs.State.{State}
use Rattle.sqlite.specs.declared.types.Value.TheVariants.{Int, Text}
use Rattle.sql_rows.specs.ColumnValues.{natural_of, plain_text_of, read_word}
use Rattle.sql_rows.specs.declared.stored_records.InMeeting.{InMeeting}
use Rattle.sql_schema.specs.Statements.{Changes, TableOf}
use Rattle.vocabulary.specs.Kinds.{holder_kind_of}
use Rattle.vocabulary.specs.Names.{party_of}
use Rattle.desk_words.specs.ViewTypes.{MeetingName}
use Rattle.desk_words.specs.declared.records.RegisterRow.{RegisterRow}

-- records are added after the others, in their order
abbrev pub AddsAll : {A : Type 0} → TableOf A → List A → State → State → Type 0
AddsAll table added = Changes table (λ was. was ++ added)

-- the rows of a meeting's register
abbrev pub rows_of_meeting : MeetingName → List RegisterRow → List (InMeeting RegisterRow)
rows_of_meeting meeting rows = map (λ row. record { meeting = meeting; item = row }) rows

-- ---- the values of rows

-- what the columns of a row of a register hold, but for its meeting
pub record RowValues : Type 0 where
  pub member : List ℕ
  pub kind : List ℕ
  pub name : List ℕ
  pub shares : ℤ
  pub paid : ℤ

abbrev pub values_row : RowValues → Row
values_row v =
    Text v.member ∷ Text v.kind ∷ Text v.name ∷ Int v.shares ∷ Int v.paid ∷ []

-- the values mean the row
pub record AreValuesOf (v : RowValues) (row : RegisterRow) : Type 0 where
  pub member : party_of v.member ≡ Some row.member
  pub kind : read_word holder_kind_of v.kind ≡ Some row.kind
  pub name : read_word plain_text_of v.name ≡ Some row.name
  pub shares : natural_of v.shares ≡ Some row.shares
  pub paid : natural_of v.paid ≡ Some row.paid

-- each values mean the row at the same place
abbrev pub EachMeans : List RowValues → List RegisterRow → Type 0
EachMeans [] [] = Unit {0}
EachMeans (v ∷ values) (row ∷ rows) = AreValuesOf v row × EachMeans values rows
EachMeans values rows = ⊥
