use Rattle.std.proofs.Common.{◌≡◌, map, filter, take}
use Rattle.party_views.specs.ViewsByMember.{is_asked_late, late_of}
use Rattle.party_views.proofs.governed.late_polls.Given as goal

-- the late ones of the first polls
abbrev pub invariant-loop-poll : goal.invariant-loop-poll
invariant-loop-poll l = l.late.items ≡ map (late_of l.meeting l.closed l.now) (filter (is_asked_late l.polls.on l.closed) (take l.poll-index l.poll-items))
