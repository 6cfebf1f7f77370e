use Rattle.sql_open.proofs.MigratedMovingLemmas.{copied}
use Rattle.sql_open.proofs.migration.copy_tables.Goals as goal

pub returns-clause-copied : goal.returns-clause-copied
returns-clause-copied g c =
    copied g.S.Store _ _ _ _ c.in_ok-copy-2.ensures.commits c.in_ok-copy-3.ensures.commits c.in_ok-copy.field-0 c.in_ok-copy-2.field-0 c.in_ok-copy-3.field-0 (tt {0})
    c.in_ok-copy.ensures.copied c.in_ok-copy-2.ensures.copied c.in_ok-copy-3.ensures.copied
    c.in_ok-copy.ensures.typed c.in_ok-copy-2.ensures.typed c.in_ok-copy-3.ensures.typed
