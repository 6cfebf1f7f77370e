use Rattle.sql_open.proofs.MigratedMovingLemmas.{emptied}
use Rattle.sql_open.proofs.migration.empty_tables.Goals as goal

pub returns-clause-emptied : goal.returns-clause-emptied
returns-clause-emptied g c =
    emptied g.S.Store _ _ _ _ c.in_ok-empty-2.ensures.commits c.in_ok-empty-3.ensures.commits c.in_ok-empty.field-0 c.in_ok-empty-2.field-0 c.in_ok-empty-3.field-0 (tt {0})
    c.in_ok-empty.ensures.emptied c.in_ok-empty-2.ensures.emptied c.in_ok-empty-3.ensures.emptied
