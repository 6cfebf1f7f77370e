use Rattle.std.proofs.Common.{◌≡◌, ◌+◌, ◌++◌, drop}
use Rattle.desk_papers.specs.PrintedResults.{resolutions_text}
use Rattle.desk_papers.proofs.text.push_resolutions.Given as goal

-- What was added, and what the resolutions that are left will add, is the text of all.
abbrev pub invariant-loop-resolution : goal.invariant-loop-resolution
invariant-loop-resolution l = record {
  number : l.number ≡ l.resolution-index + 1;
  text : l.text.items ++ resolutions_text l.polls l.number (drop l.resolution-index l.resolutions) ≡ l.initial.text.items ++ resolutions_text l.polls 1 l.resolutions;
}
