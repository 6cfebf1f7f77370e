use Rattle.std.proofs.Common.{rules}
use Rattle.sql_open.proofs.MigratedMovingLemmas.{moves}
use Rattle.sql_open.proofs.migration.move_tables.Goals as goal

pub returns-clause-moves : goal.returns-clause-moves
returns-clause-moves g c =
    moves g.S.Store _ _ _ _ _ c.in_ok-make_later.field-0 c.in_ok-copy_tables.field-0 c.in_ok-empty_tables.field-0 (tt {0}) tt c.in_ok-make_later.ensures.made c.in_ok-copy_tables.ensures.copied c.in_ok-copy_tables.ensures.commits
    c.in_ok-empty_tables.ensures.emptied c.in_ok-empty_tables.ensures.commits (search rules) (search rules)
