use Rattle.std.proofs.Common.{◌≡◌, drop}
use Rattle.proxy_rules.specs.Holdings.{are_numbered_from}
use Rattle.proxy_rules.proofs.claims.are_numbered.Given as goal

-- so many appointments were looked at, and the others are to be numbered on
abbrev pub invariant-loop-claim : goal.invariant-loop-claim
invariant-loop-claim l = record {
  count : l.number ≡ l.claim-index;
  rest : are_numbered_from 0 l.appointed ≡ are_numbered_from l.number (drop l.claim-index l.appointed);
}
