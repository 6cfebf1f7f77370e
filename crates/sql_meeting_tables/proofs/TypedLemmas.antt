-- Rows that obey their declaration are copied as they are.
use Rattle.std.proofs.Common.{◌≡◌, ℕ, suc, ◌+◌, List, [], ◌∷◌, map, drop, Bool, true, false, if◌then◌else◌, Option, Ok, Err, Result, OnOk, IsTrue, refl, sym, ap, subst, ◌∙◌}
use Rattle.std.specs.List.{AllByRecursion}
use Rattle.std.proofs.lemmas.Bool.{and_parts}
use Rattle.sqlite.specs.declared.error.Error.{Error}
use Rattle.sqlite.specs.declared.types.Value.{Value}
use Rattle.sqlite.specs.declared.types.Value.TheVariants.{Null, Int, Real, Text, Blob}
use Rattle.sqlite.specs.Cast.{cast}
use Rattle.sqlite.specs.Kind.TheVariants.{Integer, Text as Texts}
use Rattle.sqlite.specs.Order.{Row, column}
use Rattle.sqlite.specs.Schema.{Schema}
use Rattle.sqlite.specs.State.{State, ExecutesInside}
use Rattle.sqlite.specs.Table.{Table}
use Rattle.sqlite.specs.Tree.{rowid}
use Rattle.sqlite_schema.specs.declared.schema.Column.{Column}
use Rattle.sqlite_schema.specs.Names.{is_key}
use Rattle.sqlite_schema.specs.Rules.{are_typed, is_of}
use Rattle.sqlite_trees.specs.View.{is_int}
use Rattle.sql_schema.specs.CopiedRows.{in_first_session}
use Rattle.sql_schema.specs.Statements.{HasTables, IsDesk, IsRising, TableOf, columns_of, layout_two}
use Rattle.sql_schema.specs.SqlTexts.{copying_text}
use Rattle.sql_lemmas.proofs.Copying.{CopiesTable, PutsCopies, copied_terms, copy_by, puts_copies}
use Rattle.sql_lemmas.proofs.Frames.{twos_apart}
use Rattle.sql_lemmas.proofs.Listing.{shown_terms}
use Rattle.sql_lemmas.proofs.Values.{cast_int, cast_null}
use Rattle.sql_meeting_tables.specs.Copying.{AreTyped, CopiesTyped}

-- ---- values of the type of their column

-- a column of one type alone, whose values a write keeps
pub record KeepsTyped (c : Column) : Type 0 where
  pub strict : c.is_strict ≡ true
  pub stays : (v : Value) → is_of c.kind v ≡ true → cast c.kind v ≡ v

pub texts_stay : (v : Value) → is_of Texts v ≡ true → cast Texts v ≡ v
texts_stay Null h = refl
texts_stay (Int n) h = absurd cc
texts_stay (Real x) h = absurd cc
texts_stay (Text t) h = refl
texts_stay (Blob b) h = absurd cc

pub integers_stay : (v : Value) → is_of Integer v ≡ true → cast Integer v ≡ v
integers_stay Null h = cast_null
integers_stay (Int n) h = cast_int n
integers_stay (Real x) h = absurd cc
integers_stay (Text t) h = absurd cc
integers_stay (Blob b) h = absurd cc

-- the value of each column but the key stays
abbrev pub AllStay : Option ℕ → ℕ → List Column → (ℕ → Value) → Type 0
AllStay key at [] value = Unit {0}
AllStay key at (c ∷ cs) value = (is_key key at ≡ false → cast c.kind (value 0) ≡ value 0) × AllStay key (at + 1) cs (λ k. value (suc k))

suits_so : (is_here strict : Bool) (a b d : Bool) → is_here ≡ false → strict ≡ true → (if is_here then a else (if strict then b else d)) ≡ true → b ≡ true
suits_so false true a b d p q h = h
suits_so true strict a b d p q h = absurd cc
suits_so false false a b d p q h = absurd cc

all_stay : (key : Option ℕ) (at : ℕ) (cs : List Column) (vs : Row) (value : ℕ → Value) → ((k : ℕ) → value k ≡ column vs k) → AllByRecursion KeepsTyped cs → are_typed key at cs vs ≡ true → AllStay key at cs value
all_stay key at [] vs value is kinds h = tt
all_stay key at (c ∷ cs) [] value is kinds h = (
  λ _. subst (λ (v : Value). cast c.kind v ≡ v) (sym (is 0)) (kinds.0.stays Null refl),
  all_stay key (at + 1) cs [] (λ k. value (suc k)) (λ k. is (suc k)) kinds.1 (and_parts _ (are_typed key (at + 1) cs []) h).1,
)
all_stay key at (c ∷ cs) (v ∷ vs) value is kinds h =
    let both = and_parts _ (are_typed key (at + 1) cs vs) h in (
      λ no. subst (λ (x : Value). cast c.kind x ≡ x) (sym (is 0)) (kinds.0.stays v (suits_so (is_key key at) c.is_strict _ (is_of c.kind v) _ no kinds.0.strict both.0)),
      all_stay key (at + 1) cs vs (λ k. value (suc k)) (λ k. is (suc k)) kinds.1 both.1,
    )

behind : (row : Row) (k : ℕ) → column row (suc k) ≡ column (drop 1 row) k
behind [] k = refl
behind (v ∷ row) k = refl

-- the values of a row stay
pub row_stays : (declared : Table) → AllByRecursion KeepsTyped declared.columns → (row : Row) → are_typed declared.key 0 declared.columns (drop 1 row) ≡ true → AllStay declared.key 0 declared.columns (λ k. column row (suc k))
row_stays declared kinds row h = all_stay declared.key 0 declared.columns (drop 1 row) (λ k. column row (suc k)) (behind row) kinds h

-- ---- rows

same_numbers : (copy : Row → Row) → ((r : Row) → IsTrue (is_int (rowid r)) → rowid (copy r) ≡ rowid r) → (rows : List Row) → AllByRecursion (λ r. IsTrue (is_int (rowid r))) rows → map rowid (map copy rows) ≡ map rowid rows
same_numbers copy keeps [] h = refl
same_numbers copy keeps (r ∷ rows) h = rw (keeps r h.0, same_numbers copy keeps rows h.1) refl

module _ {A : Type 0} (declared : Table) (one two : TableOf A) where
  -- the columns of a row that obeys its declaration are copied, with the first session
  abbrev pub CopiesRow : (Row → Row) → Type 0
  CopiesRow copy = (row : Row) → are_typed declared.key 0 declared.columns (drop 1 row) ≡ true → columns_of two (copy row) ≡ in_first_session (columns_of one row)

  columns_copied : (copy : Row → Row) → CopiesRow copy → (rows : List Row) → AreTyped declared rows → map (columns_of two) (map copy rows) ≡ map in_first_session (map (columns_of one) rows)
  columns_copied copy each [] h = refl
  columns_copied copy each (row ∷ rows) h = rw (each row h.0, columns_copied copy each rows h.1) refl

  copies : (copy : Row → Row) → ((r : Row) → IsTrue (is_int (rowid r)) → rowid (copy r) ≡ rowid r) → CopiesRow copy → (old new : State) (r : Result ℕ Error) → IsRising (old.now.trees one.number)
      → OnOk r (PutsCopies layout_two one.number two.number copy old new) → OnOk r (CopiesTyped declared one two old new)
  copies copy keeps each old new (Err e) up h = tt
  copies copy keeps each old new (Ok count) up h = λ typed empty. record {
    numbers = ap (map rowid) (h.rows empty) ∙ same_numbers copy keeps (old.now.trees one.number) up.1;
    rows = ap (map (columns_of two)) (h.rows empty) ∙ columns_copied copy each (old.now.trees one.number) typed;
  }

-- the text that copies a table copies the rows that obey their declaration
pub typed_copied : {A : Type 0} {one two : TableOf A} {from table : Table} → ((schema : Schema) → HasTables layout_two schema → CopiesTable one two from table schema)
    → (copy : Row → Row) → ((row : Row) → copy_by (record table { tree = two.number }) (copied_terms table (shown_terms one)) row ≡ copy row)
    → ((r : Row) → IsTrue (is_int (rowid r)) → rowid (copy r) ≡ rowid r) → CopiesRow from one two copy
    → (old new : State) (r : Result ℕ Error) → IsDesk old → IsTrue old.in_transaction → ExecutesInside 0 (copying_text from table) [] old new r → OnOk r (CopiesTyped from one two old new)
typed_copied {one = one} {two = two} {from = from} {table = table} texts copy same keeps each old new r was inside h =
    let it = texts old.now.schema was.schema in
    let terms = copied_terms table (shown_terms one) in
    let target = record table { tree = two.number } in
    let copying : (λ row. copy_by target terms row) ≡ copy = λ i. λ row. same row i in
    copies from one two copy keeps each old new r (was.rising one.number it.from_numbered)
    (subst (λ c. OnOk r (PutsCopies layout_two one.number two.number c old new)) copying
    (puts_copies (twos_apart old.now.schema was.schema) it.place target it.by one.number terms (copying_text from table) it.is it.plain it.there it.numbered it.from_numbered it.none it.bare
    (λ row key. ap rowid (same row) ∙ keeps row key) old new r refl was inside h))
