use Rattle.std.proofs.Common.{subst}
use Rattle.sql_write.specs.Writes.{Rewrites, any_records, keys_added}
use Rattle.sql_write.proofs.SetLemmas.{keys_written}
use Rattle.sql_write.proofs.desk_lists.set_keys.Goals as goal

pub returns-clause-writes : goal.returns-clause-writes
returns-clause-writes g c =
    let turns = subst (λ l. Rewrites g.S.Store c.empty.new.tx.conn.now c.add_keys.new.tx.conn.now c.add_keys.result any_records (keys_added l)) c.as_slice.ensures.value c.add_keys.ensures.turns in
    keys_written g.S.Store c.args.tx.now.conn.now c.empty.new.tx.conn.now c.add_keys.new.tx.conn.now c.in_ok-empty.field-0 c.in_ok-empty.ensures.commits c.add_keys.result c.args.keys.now c.as_slice.ensures.valid c.in_ok-empty.ensures.emptied turns
