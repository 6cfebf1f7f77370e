use Rattle.std.proofs.Common.{◌≡◌, ◌-◌, length}
use Rattle.http_heads.specs.Heads.{IsOpen, ReceivesBytes}
use Rattle.http_heads.specs.declared.front.TheConstants.{LONGEST_HEAD}
use Rattle.http_heads.proofs.heads.HeadReader.read_on.Given as goal

-- The bytes so far hold no head and can become one.
abbrev pub invariant-loop-self : goal.invariant-loop-self
invariant-loop-self g l = record {
  unsettled : IsOpen l.self.bytes;
  comes : ReceivesBytes l.initial.self.bytes l.self.bytes (g.S.Source.remaining l.initial.source) (g.S.Source.remaining l.source) (g.S.Source.passed l.initial.source) (g.S.Source.passed l.source);
  works : g.S.Source.failures l.source ≡ g.S.Source.failures l.initial.source;
}

abbrev pub decreases-loop-self : goal.decreases-loop-self
decreases-loop-self g l = LONGEST_HEAD - length l.self.bytes
