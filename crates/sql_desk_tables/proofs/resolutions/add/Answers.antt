use Rattle.std.proofs.Common.{◌≡◌, [], ◌∷◌, refl, w64, rules, to_z, of_z}
use Rattle.sqlite.specs.declared.types.Value.TheVariants.{Int, Text}
use Rattle.sqlite.specs.Order.{Row}
use Rattle.sql_lemmas.proofs.Values.{cast_int, cast_null}
use Rattle.sql_rows.specs.ColumnValues.{number_in, parsed_in, parsed_word_in}
use Rattle.sql_rows.specs.Meetings.{resolution_in}
use Rattle.sql_desk_tables.proofs.resolutions.add.Goals as goal

pub returns-clause-added : goal.returns-clause-added
unfolding resolution_in number_in parsed_in parsed_word_in
returns-clause-added g c =
    let same_0 : to_z w64 (of_z w64 c.in_ok-number.number) ≡ c.in_ok-number.number = search rules in
    let values : Row = Text c.meeting_text.result.now ∷ Int c.in_ok-number.number ∷ Text c.resolution_kind_text.result.now ∷ Text c.text_value.result.now ∷ [] in
    c.add_row.ensures.added (record { meeting = c.args.meeting; item = record { number = c.args.number; item = c.args.resolution.now } })
    (rw (c.params-to_sql.ensures, c.params-to_sql-2.ensures, c.params-to_sql-3.ensures, c.params-to_sql-4.ensures, same_0) (record {
      cells = values;
      preserved = rw (cast_null, cast_int c.in_ok-number.number) refl;
      means = λ id. rw (c.meeting_text.ensures, c.in_ok-number.ensures.reads_back, c.resolution_kind_text.ensures, c.text_value.ensures) refl;
    }))
