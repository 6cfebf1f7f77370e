use Rattle.std.proofs.Common.{◌≡◌, map}
use Rattle.party_views.specs.ViewsByMember.{given_with_ending}
use Rattle.party_views.proofs.given.given_with.Given as goal

-- the first appointments with their endings
abbrev pub invariant-loop-appointment : goal.invariant-loop-appointment
invariant-loop-appointment l = l.all.items ≡ map (given_with_ending l.moments) l.yielded
