use Rattle.std.proofs.Common.{◌≡◌, [], ◌∷◌, refl, w64, rules, to_z, of_z}
use Rattle.sqlite.specs.declared.types.Value.TheVariants.{Null, Int, Text}
use Rattle.sqlite.specs.Order.{Row}
use Rattle.sqlite.specs.Values.{or_null}
use Rattle.sql_lemmas.proofs.Values.{bound_some, cast_flag, cast_int, cast_null, cast_some, flag, flag_reads_back}
use Rattle.sql_rows.specs.ColumnValues.{day_in, flag_in, moment_in, number_in, some_moment_in, parsed_in, parsed_word_in}
use Rattle.sql_rows.specs.Meetings.{meeting_in}
use Rattle.sql_schema.specs.Contents.{without_resolutions}
use Rattle.sql_desk_tables.proofs.meetings.add.Goals as goal

pub returns-clause-added : goal.returns-clause-added
unfolding meeting_in day_in flag_in moment_in number_in some_moment_in parsed_in parsed_word_in
returns-clause-added g c =
    let same_0 : to_z w64 (of_z w64 c.day_number.result) ≡ c.day_number.result = search rules in
    let same_1 : to_z w64 (of_z w64 c.moment_number.result) ≡ c.moment_number.result = search rules in
    let same_2 : to_z w64 (of_z w64 c.moment_number-2.result) ≡ c.moment_number-2.result = search rules in
    let values : Row = Text c.meeting_text.result.now ∷ Text c.company_text.result.now ∷ Text c.meeting_kind_text.result.now ∷ Int c.day_number.result ∷ Int c.moment_number.result ∷ Int c.moment_number-2.result ∷ flag c.args.meeting.now.loaded ∷ or_null Int c.some_moment_number.result ∷ [] in
    c.add_row.ensures.added (without_resolutions c.args.meeting.now)
    (rw (c.params-to_sql.ensures, c.params-to_sql-2.ensures, c.params-to_sql-3.ensures, c.params-to_sql-4.ensures, c.params-to_sql-5.ensures, c.params-to_sql-6.ensures, c.params-to_sql-7.ensures, c.params-to_sql-8.ensures, bound_some c.some_moment_number.result, same_0, same_1, same_2) (record {
      cells = Null ∷ values;
      preserved = rw (cast_null, cast_int c.day_number.result, cast_int c.moment_number.result, cast_int c.moment_number-2.result, cast_flag c.args.meeting.now.loaded, cast_some c.some_moment_number.result) refl;
      means = λ id. rw (c.meeting_text.ensures, c.company_text.ensures, c.meeting_kind_text.ensures, c.day_number.ensures, c.moment_number.ensures, c.moment_number-2.ensures, c.some_moment_number.ensures, flag_reads_back c.args.meeting.now.loaded) refl;
    }))
