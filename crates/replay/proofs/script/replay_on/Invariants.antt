use Rattle.std.proofs.Common.{◌≡◌, ◌+◌, ◌-◌, length}
use Rattle.std.specs.Prelude.{IfSome}
use Rattle.line_reader.specs.NextLine.{longest_input, unread, SameWhole}
use Rattle.desk_words.specs.declared.office.OfficeLists.{OfficeLists}
use Rattle.replay.specs.Transcript.{OfOpenOffice}
use Rattle.replay.proofs.Progress.{Progress}
use Rattle.replay.proofs.script.replay_on.Given as goal

-- so many lines are answered, no device has failed, and what was taken is counted
abbrev pub invariant-loop-gathered : goal.invariant-loop-gathered
invariant-loop-gathered g l = record {
  progress : OfOpenOffice g.O.Office l.fn.office l.office (λ it. (now : OfficeLists) × g.O.Office.stands l.office now × IfSome (g.R.Source.remaining l.fn.reader) (λ input.
      Progress g.O.Office.may_fail it input (unread l.lines.pending (g.R.Source.remaining l.reader)) now (g.W.Sink.contents l.fn.writer) (g.W.Sink.contents l.writer) l.gathered));
  reads : g.R.Source.failures l.reader ≡ g.R.Source.failures l.fn.reader;
  writes : g.W.Sink.failures l.writer ≡ g.W.Sink.failures l.fn.writer;
  whole : SameWhole 0 (g.R.Source.remaining l.fn.reader) l.lines.taken (g.R.Source.remaining l.reader);
  counted : l.lines.taken + g.R.Source.passed l.fn.reader ≡ g.R.Source.passed l.reader;
}

abbrev pub decreases-loop-gathered : goal.decreases-loop-gathered
decreases-loop-gathered g l = (longest_input + 2 + length l.lines.pending) - l.lines.taken
