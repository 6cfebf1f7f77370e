use Rattle.sqlite.specs.Held.{state}
use Rattle.sql_open.proofs.WholeLemmas.{notes_so}
use Rattle.desk_cache.proofs.CacheLemmas.{stands_if_made}
use Rattle.case_runner.proofs.asking.open.Goals as goal

pub of_opened-desk-requires-clause-opened : goal.of_opened-desk-requires-clause-opened
of_opened-desk-requires-clause-opened g c = λ clean made.
    let it = c.in-Ok.ensures.known clean in
    stands_if_made (state g.S.Store c.args.conn) (state g.S.Store c.in-Ok.opened) it.0 it.2
    (λ so.
    let for = c.in-Ok.ensures.stands clean it.0 so (it.1.noted (notes_so it.0 (state g.S.Store c.args.conn).now.schema so)) in
    (for.0, for.2)) made
