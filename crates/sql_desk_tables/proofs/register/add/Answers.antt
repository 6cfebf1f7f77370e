use Rattle.std.proofs.Common.{◌≡◌, [], ◌∷◌, refl, w64, rules, to_z, of_z}
use Rattle.sqlite.specs.declared.types.Value.TheVariants.{Int, Text}
use Rattle.sqlite.specs.Order.{Row}
use Rattle.sql_lemmas.proofs.Values.{cast_int, cast_null}
use Rattle.sql_rows.specs.ColumnValues.{number_in, parsed_in, parsed_word_in}
use Rattle.sql_rows.specs.Meetings.{holding_in}
use Rattle.sql_desk_tables.proofs.register.add.Goals as goal

pub returns-clause-added : goal.returns-clause-added
unfolding holding_in number_in parsed_in parsed_word_in
returns-clause-added g c =
    let same_0 : to_z w64 (of_z w64 c.in_ok-shares.shares) ≡ c.in_ok-shares.shares = search rules in
    let same_1 : to_z w64 (of_z w64 c.in_ok-paid.paid) ≡ c.in_ok-paid.paid = search rules in
    let values : Row = Text c.meeting_text.result.now ∷ Text c.party_text.result.now ∷ Text c.holder_kind_text.result.now ∷ Text c.text_value.result.now ∷ Int c.in_ok-shares.shares ∷ Int c.in_ok-paid.paid ∷ [] in
    c.add_row.ensures.added (record { meeting = c.args.meeting; item = c.args.holding.now })
    (rw (c.params-to_sql.ensures, c.params-to_sql-2.ensures, c.params-to_sql-3.ensures, c.params-to_sql-4.ensures, c.params-to_sql-5.ensures, c.params-to_sql-6.ensures, same_0, same_1) (record {
      cells = values;
      preserved = rw (cast_null, cast_int c.in_ok-shares.shares, cast_int c.in_ok-paid.paid) refl;
      means = λ id. rw (c.meeting_text.ensures, c.party_text.ensures, c.holder_kind_text.ensures, c.text_value.ensures, c.in_ok-shares.ensures.reads_back, c.in_ok-paid.ensures.reads_back) refl;
    }))
