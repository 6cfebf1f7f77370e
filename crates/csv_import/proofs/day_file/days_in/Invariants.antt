use Rattle.std.proofs.Common.{◌≡◌, ◌+◌, ◌≤◌, length}
use Rattle.std.specs.BTreeSet.{keys}
use Rattle.line_reader.specs.Lines.{lines_of}
use Rattle.csv_import.specs.DayFiles.{days_in, day_file}
use Rattle.csv_import.proofs.day_file.days_in.Given as goal

-- The lines that are left, after the days so far, give what the file does.
abbrev pub invariant-loop-rest : goal.invariant-loop-rest
invariant-loop-rest l = record {
  same : day_file l.fn.bytes ≡ days_in l.line (keys l.days) (lines_of l.rest);
  few : length (keys l.days) ≤ 2000;
  counted : l.line + length l.rest ≤ 65537;
}

abbrev pub decreases-loop-rest : goal.decreases-loop-rest
decreases-loop-rest l = length l.rest
