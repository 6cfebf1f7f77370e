use Rattle.std.proofs.Common.{◌<◌, ◌^◌, drop}
use Rattle.json_requests.proofs.NumberLemmas.{IsReadTo}
use Rattle.json_requests.proofs.number.digits_number.Given as goal

abbrev pub invariant-loop-byte : goal.invariant-loop-byte
invariant-loop-byte l = IsReadTo l.bytes l.number (drop l.byte-index l.bytes) × (l.number < 2 ^ 64)
