use Rattle.std.proofs.Common.{[], ◌∷◌, inr, refl}
use Rattle.sqlite.specs.declared.types.Value.TheVariants.{Text}
use Rattle.sql_stored.proofs.keys.Tuple3MeetingIdPartyPartyRowKey.ask.Goals as goal

pub returns-clause-asked : goal.returns-clause-asked
returns-clause-asked g c =
    let meeting = c.meeting_text.result.now in
    let party = c.party_text.result.now in
    let other = c.party_text-2.result.now in
    inr (
      Text meeting ∷ Text party ∷ Text other ∷ [],
      record { meeting = meeting; party = party; other = other; is = refl; named = c.meeting_text.ensures; of = c.party_text.ensures; with = c.party_text-2.ensures },
      record {
        ok = λ clean. rw (c.params-to_sql.ensures, c.params-to_sql-2.ensures, c.params-to_sql-3.ensures) at (c.query_all.ensures.ok clean);
        err = λ clean. rw (c.params-to_sql.ensures, c.params-to_sql-2.ensures, c.params-to_sql-3.ensures) at (c.query_all.ensures.err clean);
        crash = c.query_all.ensures.survives;
      },
    )
