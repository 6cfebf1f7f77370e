use Rattle.std.proofs.Common.{◌≡◌, map}
use Rattle.sql_load.specs.MeetingRecords.{without_meeting}
use Rattle.sql_load_needed.proofs.by_receipt.filed.Given as goal

-- the items of the records that were taken
abbrev pub invariant-loop-record : goal.invariant-loop-record
invariant-loop-record g l = l.items ≡ map without_meeting l.yielded
