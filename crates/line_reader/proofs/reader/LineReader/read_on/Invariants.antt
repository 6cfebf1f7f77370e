use Rattle.std.proofs.Common.{◌≡◌, ◌-◌, ◌+◌, length}
use Rattle.line_reader.specs.Lines.{feed_place}
use Rattle.line_reader.specs.NextLine.{longest_input}
use Rattle.line_reader.specs.FirstLine.{ReadsOn}
use Rattle.line_reader.proofs.reader.LineReader.read_on.Given as goal

-- Nothing was given, and no line feed has come.
abbrev pub invariant-loop-self : goal.invariant-loop-self
invariant-loop-self g l = record {
  reads : ReadsOn l.initial.self l.self (g.S.Source.remaining l.initial.source) (g.S.Source.remaining l.source) (g.S.Source.passed l.initial.source) (g.S.Source.passed l.source);
  works : g.S.Source.failures l.source ≡ g.S.Source.failures l.initial.source;
  none : feed_place l.self.pending ≡ length l.self.pending;
}

abbrev pub decreases-loop-self : goal.decreases-loop-self
decreases-loop-self g l = longest_input + 1 - l.self.taken
