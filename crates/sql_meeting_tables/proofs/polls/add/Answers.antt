use Rattle.std.proofs.Common.{◌≡◌, [], ◌∷◌, refl, w64, rules, to_z, of_z}
use Rattle.sqlite.specs.declared.types.Value.TheVariants.{Int, Text}
use Rattle.sqlite.specs.Order.{Row}
use Rattle.sqlite.specs.Values.{or_null}
use Rattle.sql_lemmas.proofs.Values.{bound_some, cast_flag, cast_int, cast_null, cast_some, flag, flag_reads_back}
use Rattle.sql_rows.specs.ColumnValues.{flag_in, moment_in, number_in, some_moment_in, parsed_in}
use Rattle.sql_rows.specs.Marks.{declared_in, poll_in}
use Rattle.sql_meeting_tables.proofs.polls.add.Goals as goal

pub returns-clause-added : goal.returns-clause-added
unfolding poll_in declared_in flag_in moment_in number_in some_moment_in parsed_in
returns-clause-added g c =
    let same_0 : to_z w64 (of_z w64 c.in_ok-resolution.resolution) ≡ c.in_ok-resolution.resolution = search rules in
    let same_3 : to_z w64 (of_z w64 c.in_ok-session.session) ≡ c.in_ok-session.session = search rules in
    let same_1 : to_z w64 (of_z w64 c.moment_number.result) ≡ c.moment_number.result = search rules in
    let same_2 : to_z w64 (of_z w64 c.moment_number-2.result) ≡ c.moment_number-2.result = search rules in
    let values : Row = Text c.meeting_text.result.now ∷ Int c.in_ok-session.session ∷ Int c.in_ok-resolution.resolution ∷ Int c.moment_number.result ∷ Int c.moment_number-2.result ∷ flag c.args.poll.now.chair ∷ or_null Int c.some_moment_number.result ∷ or_null Int c.some_moment_number-2.result ∷ or_null Int c.in_ok-tally.tally.votes_for ∷ or_null Int c.in_ok-tally.tally.votes_against ∷ or_null Int c.in_ok-tally.tally.withheld ∷ or_null Int c.in_ok-tally.tally.eligible ∷ [] in
    c.add_row.ensures.added (record { meeting = c.args.meeting; item = c.args.poll.now })
    (rw (c.params-to_sql.ensures, c.params-to_sql-2.ensures, c.params-to_sql-3.ensures, c.params-to_sql-4.ensures, c.params-to_sql-5.ensures, c.params-to_sql-6.ensures, c.params-to_sql-7.ensures, c.params-to_sql-8.ensures, c.params-to_sql-9.ensures, c.params-to_sql-10.ensures, c.params-to_sql-11.ensures, c.params-to_sql-12.ensures, bound_some c.some_moment_number.result, bound_some c.some_moment_number-2.result, bound_some c.in_ok-tally.tally.votes_for, bound_some c.in_ok-tally.tally.votes_against, bound_some c.in_ok-tally.tally.withheld, bound_some c.in_ok-tally.tally.eligible, same_0, same_1, same_2, same_3) (record {
      cells = values;
      preserved = rw (cast_null, cast_int c.in_ok-session.session, cast_int c.in_ok-resolution.resolution, cast_int c.moment_number.result, cast_int c.moment_number-2.result, cast_flag c.args.poll.now.chair, cast_some c.some_moment_number.result, cast_some c.some_moment_number-2.result, cast_some c.in_ok-tally.tally.votes_for, cast_some c.in_ok-tally.tally.votes_against, cast_some c.in_ok-tally.tally.withheld, cast_some c.in_ok-tally.tally.eligible) refl;
      means = λ id. rw (c.meeting_text.ensures, c.in_ok-session.ensures.reads_back, c.in_ok-resolution.ensures.reads_back, c.moment_number.ensures, c.moment_number-2.ensures, c.some_moment_number.ensures, c.some_moment_number-2.ensures, c.in_ok-tally.ensures.reads_back, flag_reads_back c.args.poll.now.chair) refl;
    }))
