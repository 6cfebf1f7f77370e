use Rattle.sql_load.specs.OwnLists.{are_few, at_most, sessions_own}
use Rattle.sql_load.proofs.AssembledListLemmas.{not_few, yields_by}
use Rattle.sql_load.proofs.ordered_lists.session_list.Goals as goal

pub returns : goal.returns
returns c = yields_by (at_most 9) are_few c.numbered_list.result (sessions_own c.args.rows) not_few c.numbered_list.ensures
