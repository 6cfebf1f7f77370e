use Rattle.std.proofs.Common.{[], ◌∷◌, inr, refl}
use Rattle.sqlite.specs.declared.types.Value.TheVariants.{Text}
use Rattle.sql_stored.proofs.keys.MeetingIdRowKey.ask.Goals as goal

pub returns-clause-asked : goal.returns-clause-asked
returns-clause-asked g c =
    let meeting = c.meeting_text.result.now in
    inr (
      Text meeting ∷ [],
      record { meeting = meeting; is = refl; named = c.meeting_text.ensures },
      record {
        ok = λ clean. rw c.params-to_sql.ensures at (c.query_all.ensures.ok clean);
        err = λ clean. rw c.params-to_sql.ensures at (c.query_all.ensures.err clean);
        crash = c.query_all.ensures.survives;
      },
    )
