use Rattle.std.proofs.Common.{◌-◌}
use Rattle.office_days.specs.DaySearch.{IsBracket}
use Rattle.office_days.proofs.working.last_day_that_leaves.Given as goal

abbrev pub invariant-loop-bracket : goal.invariant-loop-bracket
invariant-loop-bracket l = IsBracket l.closed l.wanted l.end l.bracket.day l.bracket.left l.bracket.too_late

abbrev pub decreases-loop-bracket : goal.decreases-loop-bracket
decreases-loop-bracket l = l.bracket.too_late - l.bracket.day
