use Rattle.sql_open.proofs.MakingLemmas.{made_and_noted}
use Rattle.sql_open.proofs.making.make_empty_desk.Goals as goal

pub returns-clause-made : goal.returns-clause-made
returns-clause-made g c = made_and_noted g.S.Store _ _ _ tt c.in_ok-add.field-0 tt c.in_ok-make_tables.ensures.made c.in_ok-add.ensures.added c.in_ok-add.ensures.commits
