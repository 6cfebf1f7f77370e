use Rattle.std.proofs.Common.{length, take}
use Rattle.json_requests.proofs.FieldLemmas.{Gathers}
use Rattle.json_requests.proofs.fields.read_members.Given as goal

abbrev pub invariant-loop-name : goal.invariant-loop-name
invariant-loop-name l = Gathers l.names l.initial.reader l.reader (take (length l.names) l.fields)

abbrev pub decreases-loop-name : goal.decreases-loop-name
decreases-loop-name l = length l.reader
