-- Numbers that rise.
use Rattle.std.proofs.Common.{◌≡◌, ℤ, pos, List, [], ◌∷◌, ◌++◌, Bool, true, false, if◌then◌else◌, fold, IsTrue, refl, sym, subst, ◌∙◌, ◌+ℤ◌, ◌<ℤ◌, arith, Less, true≢false}
use Rattle.std.specs.List.{AllByRecursion}
use Rattle.std.specs.Ordering.{int_cmp}
use Rattle.std.specs.Cmp.{int_cmp_is}
use Rattle.std.proofs.lemmas.Bool.Decides.{nat_tests}
use Rattle.std.proofs.lemmas.Int.{ints}
use Rattle.sqlite.specs.declared.types.Value.{Value}
use Rattle.sqlite.specs.declared.types.Value.TheVariants.{Null, Int, Real, Text, Blob}
use Rattle.sqlite.specs.Order.{Row, value_cmp}
use Rattle.sqlite_value.proofs.OrderLemmas.{value_cmp-Int}
use Rattle.sqlite.specs.Tree.{rowid, put_row}
use Rattle.sqlite_trees.specs.View.{is_int}
use Rattle.sqlite.specs.Edit.{id_in, next_rowid, at_least}
use Rattle.sqlite.specs.Rowids.{Rowids}
use Rattle.sqlite.specs.Rowids.TheVariants.{Above, Chosen}
use Rattle.sql_schema.specs.Statements.{IsRising}

-- the number of the row is below this one
abbrev pub IsBelow : ℤ → Row → Type 0
IsBelow id row = value_cmp (rowid row) (Int id) ≡ Less

-- how the number of a new row is chosen, by whether the table counts the numbers that it ever gave
abbrev pub chosen_by : Bool → ℤ → Rowids
chosen_by counts last = if counts then Above last else Chosen

-- a row above the others comes last
pub put_last : (new : Row) (rows : List Row) → AllByRecursion (λ r. value_cmp (rowid r) (rowid new) ≡ Less) rows → put_row new rows ≡ rows ++ new ∷ []
put_last new [] h = refl
put_last new (r ∷ rows) h = rw (h.0, put_last new rows h.1)

pub is_its_id : (r : Row) → IsTrue (is_int (rowid r)) → rowid r ≡ Int (id_in (rowid r))
is_its_id r h = go (rowid r) h
  where
    go : (v : Value) → IsTrue (is_int v) → v ≡ Int (id_in v)
    go Null h = absurd (true≢false (sym h))
    go (Int n) h = refl
    go (Real x) h = absurd (true≢false (sym h))
    go (Text t) h = absurd (true≢false (sym h))
    go (Blob b) h = absurd (true≢false (sym h))

abbrev step_rowid : ℤ → Row → ℤ
step_rowid n r = id_in (rowid r) +ℤ pos 1

lower_than : (a b c : ℤ) → int_cmp a b ≡ Less → b <ℤ c → a <ℤ c
lower_than a b c p q = grind (arith, ints, nat_tests)

below_last : (x : Row) (rows : List Row) → IsRising (x ∷ rows) → AllByRecursion (λ r. id_in (rowid r) <ℤ fold step_rowid (step_rowid (pos 1) x) rows) (x ∷ rows)
below_last x [] h = (omega (arith, ints), tt)
below_last x (y ∷ rows) h =
    let later = below_last y rows (h.0.1, h.1.1) in
    let lower = rw (is_its_id x h.1.0, is_its_id y h.1.1.0, value_cmp-Int (id_in (rowid x)) (id_in (rowid y))) at h.0.0.0 in
    (lower_than (id_in (rowid x)) (id_in (rowid y)) _ lower later.0, later)

still_below : (last a b : ℤ) → a <ℤ b → a <ℤ at_least (Above last) b
still_below last a b h = grind (arith, ints, nat_tests)

below_next : (counts : Bool) (last a b : ℤ) → a <ℤ b → a <ℤ at_least (chosen_by counts last) b
below_next true last a b h = still_below last a b h
below_next false last a b h = h

all_rows : (counts : Bool) (last : ℤ) (rows : List Row) (next : ℤ) → AllByRecursion (λ r. IsTrue (is_int (rowid r))) rows → AllByRecursion (λ r. id_in (rowid r) <ℤ next) rows → AllByRecursion (IsBelow (at_least (chosen_by counts last) next)) rows
all_rows counts last [] next keyed low = tt
all_rows counts last (x ∷ rows) next keyed low =
    let less = below_next counts last (id_in (rowid x)) next low.0 in
    (subst (λ v. value_cmp v (Int (at_least (chosen_by counts last) next)) ≡ Less) (sym (is_its_id x keyed.0)) (value_cmp-Int _ _ ∙ sym (int_cmp_is _ _ Less less)), all_rows counts last rows next keyed.1 low.1)

-- the number that the database chooses is above each that is there
pub below_chosen : (counts : Bool) (last : ℤ) (rows : List Row) → IsRising rows → AllByRecursion (IsBelow (at_least (chosen_by counts last) (next_rowid rows))) rows
below_chosen counts last [] h = tt
below_chosen counts last (x ∷ rows) h = all_rows counts last (x ∷ rows) (next_rowid (x ∷ rows)) h.1 (below_last x rows h)
