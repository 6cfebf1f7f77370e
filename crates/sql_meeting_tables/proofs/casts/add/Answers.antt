use Rattle.std.proofs.Common.{◌≡◌, [], ◌∷◌, refl, w64, rules, to_z, of_z}
use Rattle.sqlite.specs.declared.types.Value.TheVariants.{Null, Int, Text}
use Rattle.sqlite.specs.Order.{Row}
use Rattle.sqlite.specs.Values.{or_null}
use Rattle.sql_lemmas.proofs.Values.{bound_some, bound_text, cast_int, cast_null, cast_some, cast_some_text, some_text}
use Rattle.sql_rows.specs.ColumnValues.{moment_in, number_in, parsed_in}
use Rattle.sql_rows.specs.Marks.{cast_in, cast_kind_in}
use Rattle.sql_meeting_tables.proofs.casts.add.Goals as goal

pub returns-clause-added : goal.returns-clause-added
unfolding cast_in cast_kind_in moment_in number_in parsed_in
returns-clause-added g c =
    let same_0 : to_z w64 (of_z w64 c.in_ok-resolution.resolution) ≡ c.in_ok-resolution.resolution = search rules in
    let same_1 : to_z w64 (of_z w64 c.moment_number.result) ≡ c.moment_number.result = search rules in
    let values : Row = Text c.meeting_text.result.now ∷ Int c.in_ok-resolution.resolution ∷ Text c.party_text.result.now ∷ Text c.cast_columns-columns.result.capacity.now ∷ some_text c.cast_columns-columns.result.member ∷ or_null Int c.cast_columns-columns.result.first ∷ or_null Int c.cast_columns-columns.result.last ∷ some_text c.cast_columns-columns.result.way ∷ Int c.moment_number.result ∷ [] in
    c.add_row.ensures.added (record { meeting = c.args.meeting; item = c.args.cast.now })
    (rw (c.params-to_sql.ensures, c.params-to_sql-2.ensures, c.params-to_sql-3.ensures, c.params-to_sql-4.ensures, c.params-to_sql-5.ensures, c.params-to_sql-6.ensures, c.params-to_sql-7.ensures, c.params-to_sql-8.ensures, c.params-to_sql-9.ensures, bound_text c.cast_columns-columns.result.member, bound_some c.cast_columns-columns.result.first, bound_some c.cast_columns-columns.result.last, bound_text c.cast_columns-columns.result.way, same_0, same_1) (record {
      cells = Null ∷ values;
      preserved = rw (cast_null, cast_int c.in_ok-resolution.resolution, cast_some_text c.cast_columns-columns.result.member, cast_some c.cast_columns-columns.result.first, cast_some c.cast_columns-columns.result.last, cast_some_text c.cast_columns-columns.result.way, cast_int c.moment_number.result) refl;
      means = λ id. rw (c.meeting_text.ensures, c.in_ok-resolution.ensures.reads_back, c.party_text.ensures, c.cast_columns-columns.ensures, c.moment_number.ensures) refl;
    }))
