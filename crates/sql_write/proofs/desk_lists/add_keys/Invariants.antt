use Rattle.std.proofs.Common.{◌≡◌, Ok, take}
use Rattle.sql_write.specs.Writes.{Rewrites, any_records, keys_added}
use Rattle.sql_write.proofs.desk_lists.add_keys.Given as goal

abbrev pub invariant-loop-key : goal.invariant-loop-key
invariant-loop-key g l = record {
  same : l.tx.conn.ghost_name ≡ l.fn.tx.conn.ghost_name;
  turns : Rewrites {T = Unit {0}} g.S.Store l.fn.tx.conn.now l.tx.conn.now (Ok tt) any_records (keys_added (take l.key-index l.keys));
}
