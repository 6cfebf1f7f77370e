-- Tables without rows, and the office that they are.
use Rattle.std.proofs.Common.{◌≡◌, ◌≢◌, ℕ, nat_lt, true, [], Some, IsTrue, refl, sym, ap, ◌∙◌, true≢false}
use Rattle.sqlite.specs.Effect.{IsDatabase}
use Rattle.sqlite.specs.State.{State}
use Rattle.sqlite.specs.Tree.{Trees}
use Rattle.sql_schema.specs.Contents as contents
use Rattle.sql_model.specs.OfficeRecords.{flat_two, office_in, office_of_records}
use Rattle.sql_schema.specs.Statements.{AddsFirst, AreEmpty, has_table, layout_two, records_in}
use Rattle.sql_schema.specs.Tables.{desk_schema}
use Rattle.sql_lemmas.proofs.Frames.{of_tables, twos_apart, twos_declared}
use Rattle.desk_words.specs.Changes.{empty_office}
use Rattle.sql_model.specs.Standing.{Stands, two}

above_none : (n : ℕ) → nat_lt 0 n ≡ true → n ≢ 0
above_none n h e = absurd (true≢false (sym h ∙ ap (nat_lt 0) e))

-- tables without rows are the empty office
held : (trees : Trees) → trees 1 ≡ [] → trees 4 ≡ [] → trees 5 ≡ [] → trees 8 ≡ [] → trees 10 ≡ [] → trees 12 ≡ [] → trees 14 ≡ [] → trees 16 ≡ [] → trees 18 ≡ [] → trees 20 ≡ [] → trees 22 ≡ [] → trees 24 ≡ [] → trees 29 ≡ [] → trees 31 ≡ []
    → trees 33 ≡ [] → trees 35 ≡ [] → office_in trees ≡ Some empty_office
unfolding flat_two office_of_records
held trees a b c d e f g h i j k l m n o p = rw (a, b, c, d, e, f, g, h, i, j, k, l, m, n, o, p) refl

-- and with the version noted they are the empty office
pub noted : (old new : State) → AreEmpty desk_schema old → AddsFirst contents.desk two.version old new → Stands new empty_office × (new.now.schema ≡ desk_schema) × IsDatabase new.now × IsTrue new.in_transaction
noted old new empty adds =
    let was = of_tables (twos_apart desk_schema twos_declared) (λ n. old.now.trees n ≡ []) empty.1 in
    let none : records_in contents.desk old.now.trees ≡ Some [] = rw (was 0 refl) refl in
    let added = adds [] none refl in
    let is : (number : ℕ) → IsTrue (has_table layout_two number) → nat_lt 0 number ≡ true → new.now.trees number ≡ [] = λ number table above. added.others number table (above_none number above) ∙ was number table in (
      record {
        desk = added.desk;
        version = added.records [] none;
        holds = held new.now.trees (is 1 refl refl) (is 4 refl refl) (is 5 refl refl) (is 8 refl refl) (is 10 refl refl) (is 12 refl refl) (is 14 refl refl) (is 16 refl refl) (is 18 refl refl) (is 20 refl refl) (is 22 refl refl)
            (is 24 refl refl) (is 29 refl refl) (is 31 refl refl) (is 33 refl refl) (is 35 refl refl);
        preserved = refl;
      },
      added.schema ∙ empty.0,
      added.sound,
      added.inside,
    )
