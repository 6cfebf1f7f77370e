use Rattle.std.proofs.Common.{◌≡◌, Ok, take}
use Rattle.sql_write.specs.Writes.{Rewrites, any_records, resolutions_added}
use Rattle.sql_write.proofs.meetings.add_resolutions.Given as goal

abbrev pub invariant-loop-resolution : goal.invariant-loop-resolution
invariant-loop-resolution g l = record {
  same : l.tx.conn.ghost_name ≡ l.fn.tx.conn.ghost_name;
  turns : Rewrites {T = Unit {0}} g.S.Store l.fn.tx.conn.now l.tx.conn.now (Ok tt) any_records (resolutions_added l.meeting (take l.resolution-index l.resolutions));
  counted : l.number ≡ l.resolution-index;
}
