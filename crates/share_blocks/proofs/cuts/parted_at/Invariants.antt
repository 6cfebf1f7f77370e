use Rattle.std.proofs.Common.{◌≡◌, ◌++◌, ◌≤◌, drop, true}
use Rattle.vocabulary.specs.declared.range.TheConstants.{MOST_PLACES}
use Rattle.share_blocks.specs.Cuts.{ranges_between, rise_from}
use Rattle.share_blocks.proofs.cuts.parted_at.Given as goal

-- the ranges so far and those between the cuts that are left are all
abbrev pub invariant-loop-cut : goal.invariant-loop-cut
invariant-loop-cut l =
    record {
      all : l.ranges.items ++ ranges_between l.from (drop l.cut-index l.cuts) ≡ ranges_between 1 l.cuts;
      low : 1 ≤ l.from;
      high : l.from ≤ MOST_PLACES;
      up : rise_from l.from (drop l.cut-index l.cuts) ≡ true;
    }
