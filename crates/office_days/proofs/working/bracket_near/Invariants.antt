use Rattle.std.proofs.Common.{◌+◌, ◌*◌, ◌-◌, ◌<◌, ◌≤◌, ℕ}
use Rattle.office_days.specs.WorkingDays.{work}
use Rattle.office_days.proofs.working.bracket_near.Given as goal

abbrev pub invariant-loop-back : goal.invariant-loop-back
invariant-loop-back l = (1 ≤ l.back) × (0 < l.too_late) × (l.last < l.too_late + l.back) × (l.too_late ≤ l.last + 1)
    × ((later : ℕ) → l.too_late ≤ later → later ≤ l.last → work l.closed (86400 * later) l.end < l.wanted)

abbrev pub decreases-loop-back : goal.decreases-loop-back
decreases-loop-back l = l.last - l.back
