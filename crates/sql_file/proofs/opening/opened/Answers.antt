use Rattle.std.proofs.Common.{refl}
use Rattle.sqlite.specs.Held.{state}
use Rattle.sql_open.proofs.WholeLemmas.{notes_so}
use Rattle.sql_file.proofs.opening.opened.Goals as goal

pub returns-in-Ok-clause-opened : goal.returns-in-Ok-clause-opened
returns-in-Ok-clause-opened g c = (
  refl,
  record {
    opened = λ clean.
        let it = c.in-Ok.ensures.known clean in
        record {
          known = it.0;
          opened = it.2;
          stands = λ made.
              let for = c.in-Ok.ensures.stands clean it.0 made (it.1.noted (notes_so it.0 (state g.S.Store c.args.conn).now.schema made)) in
              (for.0, for.1, for.2);
        };
    whole = c.in-Ok.ensures.whole;
    settled = c.in-Ok.ensures.settled;
    survives = c.in-Ok.ensures.survives;
  },
)
