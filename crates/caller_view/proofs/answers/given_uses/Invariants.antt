use Rattle.std.proofs.Common.{◌≡◌, map}
use Rattle.caller_view.specs.AppointmentRulings.{given_use}
use Rattle.caller_view.proofs.answers.given_uses.Given as goal

abbrev pub invariant-loop-one : goal.invariant-loop-one
invariant-loop-one l = l.uses.items ≡ map (given_use l.cutoff) l.yielded
