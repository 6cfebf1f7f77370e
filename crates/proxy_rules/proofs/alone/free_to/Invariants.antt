use Rattle.std.proofs.Common.{take}
use Rattle.proxy_rules.proofs.AloneLemmas.{IsFreeTo}
use Rattle.proxy_rules.proofs.alone.free_to.Given as goal

-- no place up to the end is taken by the first of them
abbrev pub invariant-loop-appointment : goal.invariant-loop-appointment
invariant-loop-appointment l = IsFreeTo l.cutoffs (take l.appointment-index l.later) l.place l.last l.end
