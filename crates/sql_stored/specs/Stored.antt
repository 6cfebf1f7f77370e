-- A table whose statements are made of its description.
use Rattle.std.specs.Prelude.{◌≡◌, ℕ, suc, ℤ, List, [], ◌∷◌, ◌++◌, IsTrue, None, Option, Some, codes, drop, if◌then◌else◌, length, map}
use Rattle.sqlite.specs.Cast.{cast, cast_row}
use Rattle.sqlite.specs.Command.TheVariants.{Delete}
use Rattle.sqlite.specs.Kind.{Kind}
use Rattle.sqlite.specs.Kind.TheVariants.{Integer}
use Rattle.sqlite.specs.Order.{Row}
use Rattle.sqlite.specs.Program.{given_at}
use Rattle.sqlite.specs.Schema.{Schema}
use Rattle.sqlite.specs.Table.{Table}
use Rattle.sqlite.specs.declared.types.Value.{Value}
use Rattle.sqlite.specs.declared.types.Value.TheVariants.{Int, Null}
use Rattle.sql_lemmas.proofs.Adding.{AddsGiven, given_terms}
use Rattle.sql_lemmas.proofs.Counting.{CountsAs, CountsTable}
use Rattle.sql_lemmas.proofs.Deleting.{chosen}
use Rattle.sql_lemmas.proofs.Frames.{RunsOn}
use Rattle.sql_lemmas.proofs.Listing.{ListsAs, ListsTable}
use Rattle.sql_lemmas.proofs.Making.{MakesTable}
use Rattle.sql_lemmas.proofs.Writing.{rows_of_values}
use Rattle.sql_schema.specs.SqlTexts.{filed_text}
use Rattle.sql_schema.specs.Statements.{HasTables, TableOf, columns_of, has_table, layout_two}

-- over the tables of a desk the text made of the table adds a row to it
abbrev pub AddsRows : {A : Type 0} → TableOf A → Table → Type 0
AddsRows it declared =
    (s : Schema) → HasTables layout_two s → AddsGiven layout_two s it declared

-- the rows that are added with these values, as the table keeps them
abbrev pub added_rows : ℕ → Table → Row → List Row
added_rows number declared values =
    map (λ s. cast_row (record declared { tree = number }) (drop 0 s))
    (rows_of_values (record declared { tree = number }) values (suc (length declared.columns))
    (given_terms declared))

-- a row that is added with these values means this record
pub record IsRowOf {A : Type 0} (it : TableOf A) (declared : Table) (added : A) (values : Row)
    : Type 0 where
  pub cells : Row
  pub preserved : added_rows it.number declared values ≡ (Null ∷ cells) ∷ []
  pub means : (id : ℤ) → it.means (columns_of it (Int id ∷ cells)) ≡ Some added

-- takes out every row of a table
abbrev pub emptying_text : Table → List ℕ
emptying_text table = codes "DELETE FROM " ++ table.name

-- in this schema, where the table stands at this place, the text takes out its rows
abbrev pub EmptiesAt : {A : Type 0} → TableOf A → Table → ℕ → Schema → Type 0
EmptiesAt it declared place s =
    RunsOn s (emptying_text declared)
    (Delete place (record { lets = []; body = chosen it.number [] })) place
    (record declared { tree = it.number })

-- over the tables of a desk it does so
pub record EmptiesTable {A : Type 0} (it : TableOf A) (declared : Table) : Type 0 where
  pub place : ℕ
  pub runs : (s : Schema) → HasTables layout_two s → EmptiesAt it declared place s

-- ---- a table that is made, shown and added to

-- what it stands on: how it is declared, what its rows mean, what is declared before it, and the
-- text that makes it
pub record Stands (A : Type 0) : Type 0 where
  pub declared : Table
  pub table : TableOf A
  pub before : Schema
  pub making : List ℕ

-- in this schema the texts made of the table show its rows, count them and add one
pub record HasTexts {A : Type 0} (it : TableOf A) (declared : Table) (s : Schema) : Type 0 where
  pub lists : ListsAs it declared s
  pub counts : CountsAs it declared s
  pub adds : AddsGiven layout_two s it declared

-- its own text makes it, and over the tables of a desk those made of it do what they say
pub record IsStored {A : Type 0} (it : Stands A) : Type 0 where
  pub makes : MakesTable it.before it.making it.declared
  pub texts : (s : Schema) → HasTables layout_two s → HasTexts it.table it.declared s
  pub listed : (given_at [] it.table.number ≡ None) × IsTrue (has_table layout_two it.table.number)

module _ {A : Type 0} {it : Stands A} (stored : IsStored it) where
  pub lists_of : ListsTable layout_two it.table it.declared
  lists_of = record {
    asks = λ s has. (stored.texts s has).lists;
    none = stored.listed.0;
    numbered = stored.listed.1;
  }

  pub counts_of : CountsTable it.table it.declared
  counts_of = record { asks = λ s has. (stored.texts s has).counts; none = stored.listed.0 }

  pub adds_of : AddsRows it.table it.declared
  adds_of = λ s has. (stored.texts s has).adds

-- ---- a table of rows of the meetings whose columns are described one by one

-- such a table of the form of `filed_table`
abbrev pub as_filed : {A : Type 0} → Table → TableOf A → Schema → Stands A
as_filed declared table before = record {
  declared = declared;
  table = table;
  before = before;
  making = filed_text declared;
}

-- each value, as a column of its kind keeps it
abbrev pub cast_each : List Kind → Row → Row
cast_each [] values = []
cast_each (kind ∷ kinds) [] = []
cast_each (kind ∷ kinds) (value ∷ values) = cast kind value ∷ cast_each kinds values

-- it holds of any values, one for each of these kinds
abbrev pub OfEach : List Kind → (Row → Type 0) → Type 0
OfEach [] P = P []
OfEach (kind ∷ kinds) P = (value : Value) → OfEach kinds (λ values. P (value ∷ values))

-- what stands before the values in a row that is added: where rows are counted a NULL
abbrev pub front_of : Table → Row
front_of table = if table.is_counted then Null ∷ [] else []

-- a row that is added with such values keeps each by its kind, and shows them in their order
abbrev pub KeepsValues : {A : Type 0} → TableOf A → Table → List Kind → Row → Type 0
KeepsValues it declared kinds values =
    (added_rows it.number declared values
    ≡ (cast Integer Null ∷ map (cast Integer) (front_of declared) ++ cast_each kinds values) ∷ [])
    × ((id : ℤ) → columns_of it (Int id ∷ front_of declared ++ values) ≡ values)

-- its texts do what they say, its rows keep values of these kinds, and they mean this
pub record IsFiled {A : Type 0} (it : Stands A) (kinds : List Kind) (means : Row → Option A)
    : Type 0 where
  pub stored : IsStored it
  pub keeps : OfEach kinds (KeepsValues it.table it.declared kinds)
  pub meant : it.table.means ≡ means
