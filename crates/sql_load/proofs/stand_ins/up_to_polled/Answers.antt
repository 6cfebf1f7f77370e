use Rattle.sql_load.proofs.CountedRecordLemmas.{up_to_found}
use Rattle.sql_load.proofs.stand_ins.up_to_polled.Goals as goal

pub returns-then-number-clause-known : goal.returns-then-number-clause-known
returns-then-number-clause-known c = up_to_found c.args.polls.now c.args.number c.in_ok-find_poll.field-0 c.in_ok-find_poll.ensures
