use Rattle.std.proofs.Common.{◌≡◌, take}
use Rattle.schema_compare.proofs.equal.are_equal.Given as goal

abbrev pub invariant-loop-at : goal.invariant-loop-at
invariant-loop-at g l = take l.at l.some ≡ take l.at l.others
