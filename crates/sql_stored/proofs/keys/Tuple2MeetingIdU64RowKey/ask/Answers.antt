use Rattle.std.proofs.Common.{◌≡◌, [], ◌∷◌, Err, inl, inr, refl, rules, w64, to_z, of_z}
use Rattle.sqlite.specs.declared.types.Value.TheVariants.{Int, Text}
use Rattle.sql_stored.proofs.keys.Tuple2MeetingIdU64RowKey.ask.Goals as goal

pub returns-in_err-number-clause-asked : goal.returns-in_err-number-clause-asked
returns-in_err-number-clause-asked g c =
    let is : c.from_residual.result ≡ Err c.in_err-number.field-0.0 = search rules in
    inl (record { error = c.in_err-number.field-0.0; is = is; same = refl })

pub returns-clause-asked : goal.returns-clause-asked
returns-clause-asked g c =
    let meeting = c.meeting_text.result.now in
    let number = c.in_ok-number.number in
    let same : to_z w64 (of_z w64 number) ≡ number = search rules in
    inr (
      Text meeting ∷ Int number ∷ [],
      record { meeting = meeting; number = number; is = refl; named = c.meeting_text.ensures; of = c.in_ok-number.ensures.reads_back },
      record {
        ok = λ clean. rw (c.params-to_sql.ensures, c.params-to_sql-2.ensures, same) at (c.query_all.ensures.ok clean);
        err = λ clean. rw (c.params-to_sql.ensures, c.params-to_sql-2.ensures, same) at (c.query_all.ensures.err clean);
        crash = c.query_all.ensures.survives;
      },
    )
