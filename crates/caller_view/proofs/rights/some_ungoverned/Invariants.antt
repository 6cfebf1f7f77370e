use Rattle.std.proofs.Common.{◌+◌, ◌-◌}
use Rattle.caller_view.proofs.RightsLemmas.{IsGovernedTo}
use Rattle.caller_view.specs.Rights.{governed_at_poll}
use Rattle.caller_view.proofs.rights.some_ungoverned.Given as goal

abbrev pub invariant-loop-next : goal.invariant-loop-next
invariant-loop-next l = IsGovernedTo l.received (governed_at_poll l.late l.poll) l.new l.next

abbrev pub decreases-loop-next : goal.decreases-loop-next
decreases-loop-next l = l.new.to + 1 - l.next
