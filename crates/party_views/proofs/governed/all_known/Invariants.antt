use Rattle.std.proofs.Common.{◌≡◌, map}
use Rattle.party_views.specs.ViewsByMember.{received_with}
use Rattle.party_views.proofs.governed.all_known.Given as goal

-- the first appointments with what they govern
abbrev pub invariant-loop-appointment : goal.invariant-loop-appointment
invariant-loop-appointment l = l.all.items ≡ map (received_with l.members.rows.now l.sessions l.late) l.yielded
