-- What the statements on `closed` do.
use Rattle.std.proofs.Common.{◌≡◌, ℕ, ℤ, List, [], ◌∷◌, Some, Ok, Err, Result, OnOk, IsTrue, refl, nat_lt}
use Rattle.sqlite.specs.declared.types.Value.TheVariants.{Null, Int}
use Rattle.sqlite.specs.Term.{Term, lit, col}
use Rattle.sqlite.specs.Source.TheVariants.{Values}
use Rattle.sqlite.specs.Command.TheVariants.{Insert}
use Rattle.sqlite_tied.specs.Compute.{everything}
use Rattle.sqlite.specs.declared.error.Error.{Error}
use Rattle.sqlite.specs.Listing.{understood}
use Rattle.sqlite.specs.State.{State, ExecutesInside}
use Rattle.sql_rows.specs.ColumnValues.{unix_day, day_in}
use Rattle.sql_rows.specs.DeskRows.{closed_in}
use Rattle.sql_lemmas.proofs.GivenNumbers.{days_below}
use Rattle.sql_schema.specs.Tables.{closed_table as table}
use Rattle.sql_schema.specs.SqlTexts.{adding_text}
use Rattle.sql_schema.specs.Contents.{closed}
use Rattle.sql_schema.specs.Statements.{IsDesk, AddsAfter, layout_two, HasTables}
use Rattle.sql_lemmas.proofs.Adding.{adds_numbered, means_more}
use Rattle.sql_lemmas.proofs.Values.{cast_null, cast_int}
use Rattle.sql_lemmas.proofs.Frames.{twos_apart, wide_one, RunsOn}
use Rattle.sqlite.specs.Schema.{Schema}

abbrev terms : List Term
terms = col 0 0 ∷ lit Null ∷ []

add_runs : (s : Schema) → HasTables layout_two s → RunsOn s (adding_text table) (Insert 2 (Values terms 2)) 2 (record table { tree = 4 })
unfolding understood everything
add_runs = wide_one (λ s. RunsOn s (adding_text table) (Insert 2 (Values terms 2)) 2 (record table { tree = 4 })) (λ others apart indexes views. record { is = refl; plain = (refl, refl); there = refl })

means : (n : ℤ) (day : ℕ) → unix_day n ≡ Some day → closed_in (Int n ∷ []) ≡ Some day
unfolding closed_in day_in
means n day is = is

pub adds_day : (day : ℕ) (n : ℤ) → unix_day n ≡ Some day → (old new : State) (r : Result ℕ Error) → IsDesk old → IsTrue old.in_transaction → ExecutesInside 0 (adding_text table) (Int n ∷ []) old new r
    → OnOk r (AddsAfter (λ earlier. nat_lt earlier day) closed day old new)
adds_day day n is old new (Err e) was inside h = tt
adds_day day n is old new (Ok count) was inside h = λ records known passed.
    let row = adds_numbered (twos_apart old.now.schema was.schema) 2 (record table { tree = 4 }) terms 2 (adding_text table) (Int n ∷ []) n (Null ∷ []) (add_runs old.now.schema was.schema).is (add_runs old.now.schema was.schema).plain (add_runs old.now.schema was.schema).there refl (rw (cast_null, cast_int n) refl) old new (Ok count) refl was inside
    (days_below (old.now.trees 4) records n day (was.rising 4 refl) is known passed) h in
    means_more closed (Null ∷ []) day old new row.0 (rw row.1 (means n day is))
