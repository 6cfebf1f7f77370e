use Rattle.desk_store.specs.TableReads.{IsOwnView}
use Rattle.desk_deciding.proofs.ReturnedLemmas.{returned_office}
use Rattle.desk_store.proofs.library.read_things.Goals as goal

pub returns-clause-holds : goal.returns-clause-holds
returns-clause-holds g c = returned_office g.S.Store c.args.tx.now.conn.now c.read_own.new.tx.conn.now c.read_own.result (IsOwnView c.args.party c.args.meeting c.args.now) c.read_own.ensures.holds
