use Rattle.desk_store.specs.TableReads.{IsPublic}
use Rattle.desk_deciding.proofs.ReturnedLemmas.{returned_office}
use Rattle.desk_store.proofs.reading.read_record.Goals as goal

pub returns-clause-holds : goal.returns-clause-holds
returns-clause-holds g c = returned_office g.S.Store c.args.tx.now.conn.now c.read_public.new.tx.conn.now c.read_public.result (IsPublic c.args.meeting) c.read_public.ensures.holds
