-- The last of the records that a query found, by a number that they have.
use Rattle.std.specs.Prelude.{◌≡◌, ◌≤◌, ℕ, Bool, List, [], ◌∷◌, filter, Some}
use Rattle.std.specs.List.{All, Contains}
use Rattle.sqlite.specs.Held.{Held, state}
use Rattle.sqlite.specs.Order.{Row}
use Rattle.sqlite.specs.State.{IsUnchanged}
use Rattle.sqlite_trees.specs.declared.store.Store as store
use Rattle.sql_rows.specs.Meanings.{all_meanings}
use Rattle.sql_schema.specs.Statements.{TableOf, records_in}

-- of these records one is found, and no number is above its own; where there are none, none
abbrev pub IsLastOf : {A : Type 0} → (A → ℕ) → List A → List A → Type 0
IsLastOf number records [] = records ≡ []
IsLastOf {A} number records (last ∷ []) =
    Contains records last × All (λ (x : A). number x ≤ number last) records
IsLastOf number records (first ∷ second ∷ more) = ⊥

-- these rows mean the last of a table's records that pass the test, and nothing is changed
abbrev pub FindsLast : {S A : Type 0} → store.Ghosts S → Held S → Held S → TableOf A
    → (A → Bool) → (A → ℕ) → List Row → Type 0
FindsLast {S} {A} g old new table test number rows =
    ((was : List A)
    → records_in table (state g old).now.trees ≡ Some was
    → (found : List A)
    × (all_meanings table.means rows ≡ Some found)
    × IsLastOf number (filter test was) found)
    × IsUnchanged (state g old) (state g new)
