use Rattle.std.proofs.Common.{◌≡◌, ◌-◌, ◌+◌, ◌≤◌, length}
use Rattle.line_reader.specs.Lines.{feed_place}
use Rattle.line_reader.specs.NextLine.{unread, SameWhole, longest_input}
use Rattle.line_reader.specs.FirstLine.{StaysInLine}
use Rattle.line_reader.proofs.reader.LineReader.skip_line.Given as goal

-- A front of the line is pending, and no line feed has come.
abbrev pub invariant-loop-self : goal.invariant-loop-self
invariant-loop-self g l = record {
  unfed : feed_place l.self.pending ≡ length l.self.pending;
  front : length l.self.pending ≡ 65538;
  stays : StaysInLine (unread l.fn.self.pending (g.S.Source.remaining l.fn.source)) (g.S.Source.remaining l.source);
  counted : l.self.taken + g.S.Source.passed l.fn.source ≡ l.fn.self.taken + g.S.Source.passed l.source;
  whole : SameWhole l.fn.self.taken (g.S.Source.remaining l.fn.source) l.self.taken (g.S.Source.remaining l.source);
  works : g.S.Source.failures l.source ≡ g.S.Source.failures l.fn.source;
  more : l.fn.self.taken ≤ l.self.taken;
}

abbrev pub decreases-loop-self : goal.decreases-loop-self
decreases-loop-self g l = longest_input + 1 - l.self.taken
