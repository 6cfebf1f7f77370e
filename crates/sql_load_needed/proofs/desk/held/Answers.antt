use Rattle.std.proofs.Common.{◌≡◌, length, true}
use Rattle.sql_schema.specs.Contents as table
use Rattle.sql_load.proofs.FoundRecordLemmas.{count_returned}
use Rattle.sql_load_needed.proofs.LoadedMeetingCountLemmas.{held_so}
use Rattle.sql_load_needed.proofs.desk.held.Goals as goal

pub returns-clause-holds : goal.returns-clause-holds
returns-clause-holds g c =
    count_returned g.S.Store c.args.tx.now.conn.now c.count.new.tx.conn.now (λ v. v.items) table.meetings (λ flat. flat.meetings) (λ trees flat held. held.meetings) (λ _. true) c.count.result c.count.ensures.rows c.count.ensures.changes
    c.counted.result c.counted.ensures (λ office held. held ≡ length office.meetings) held_so
