use Rattle.sql_schema.specs.Contents as table
use Rattle.sql_load.proofs.FoundRecordLemmas.{count_returned}
use Rattle.sql_load_needed.proofs.CountedCastLemmas.{count_is}
use Rattle.sql_load_needed.proofs.look_ups.count_cast_on.Goals as goal

pub returns-clause-holds : goal.returns-clause-holds
returns-clause-holds g c =
    count_returned g.S.Store c.args.tx.now.conn.now c.count_cast_on.new.tx.conn.now (λ v. v.items) table.casts (λ flat. flat.casts) (λ trees flat held. held.casts) _ c.count_cast_on.result c.count_cast_on.ensures.rows c.count_cast_on.ensures.changes
    c.counted.result c.counted.ensures _ (λ flat office of preserved. count_is c.args.party c.args.resolution c.args.meeting office preserved flat of)
