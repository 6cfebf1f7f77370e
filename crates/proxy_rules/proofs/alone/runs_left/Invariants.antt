use Rattle.std.proofs.Common.{◌+◌, ◌-◌}
use Rattle.proxy_rules.proofs.AloneLemmas.{IsLeftTo}
use Rattle.proxy_rules.proofs.alone.runs_left.Given as goal

-- the runs of what is left before the next place
abbrev pub invariant-loop-next : goal.invariant-loop-next
invariant-loop-next l = IsLeftTo l.cutoffs l.later l.range l.next l.runs.items

abbrev pub decreases-loop-next : goal.decreases-loop-next
decreases-loop-next l = l.range.to + 1 - l.next
