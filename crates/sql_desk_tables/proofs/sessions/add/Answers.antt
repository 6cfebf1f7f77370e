use Rattle.std.proofs.Common.{◌≡◌, [], ◌∷◌, refl, w64, rules, to_z, of_z}
use Rattle.sqlite.specs.declared.types.Value.TheVariants.{Int, Text}
use Rattle.sqlite.specs.Order.{Row}
use Rattle.sqlite.specs.Values.{or_null}
use Rattle.sql_lemmas.proofs.Values.{bound_some, cast_int, cast_null, cast_some}
use Rattle.sql_rows.specs.ColumnValues.{moment_in, number_in, some_moment_in, parsed_in}
use Rattle.sql_rows.specs.Meetings.{session_in}
use Rattle.sql_desk_tables.proofs.sessions.add.Goals as goal

pub returns-clause-added : goal.returns-clause-added
unfolding session_in moment_in number_in some_moment_in parsed_in
returns-clause-added g c =
    let same_0 : to_z w64 (of_z w64 c.in_ok-number.number) ≡ c.in_ok-number.number = search rules in
    let same_1 : to_z w64 (of_z w64 c.moment_number.result) ≡ c.moment_number.result = search rules in
    let values : Row = Text c.meeting_text.result.now ∷ Int c.in_ok-number.number ∷ Int c.moment_number.result ∷ or_null Int c.some_moment_number.result ∷ [] in
    c.add_row.ensures.added (record { meeting = c.args.meeting; item = record { number = c.args.number; item = c.args.session.now } })
    (rw (c.params-to_sql.ensures, c.params-to_sql-2.ensures, c.params-to_sql-3.ensures, c.params-to_sql-4.ensures, bound_some c.some_moment_number.result, same_0, same_1) (record {
      cells = values;
      preserved = rw (cast_null, cast_int c.in_ok-number.number, cast_int c.moment_number.result, cast_some c.some_moment_number.result) refl;
      means = λ id. rw (c.meeting_text.ensures, c.in_ok-number.ensures.reads_back, c.moment_number.ensures, c.some_moment_number.ensures) refl;
    }))
