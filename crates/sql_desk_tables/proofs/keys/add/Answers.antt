use Rattle.std.proofs.Common.{[], ◌∷◌, refl}
use Rattle.sqlite.specs.declared.types.Value.TheVariants.{Text}
use Rattle.sqlite.specs.Order.{Row}
use Rattle.sql_lemmas.proofs.Values.{cast_null}
use Rattle.sql_rows.specs.ColumnValues.{parsed_in}
use Rattle.sql_rows.specs.DeskRows.{key_row_in}
use Rattle.sql_desk_tables.proofs.keys.add.Goals as goal

pub returns-clause-added : goal.returns-clause-added
unfolding key_row_in parsed_in
returns-clause-added g c =
    let values : Row = Text c.caller_text.result.now ∷ Text c.key_text.result.now ∷ [] in
    c.add_row.ensures.added c.args.key.now
    (rw (c.params-to_sql.ensures, c.params-to_sql-2.ensures) (record {
      cells = values;
      preserved = rw (cast_null) refl;
      means = λ id. rw (c.caller_text.ensures, c.key_text.ensures) refl;
    }))
