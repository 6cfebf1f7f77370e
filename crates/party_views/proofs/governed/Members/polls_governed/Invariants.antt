use Rattle.std.proofs.Common.{◌≡◌, map, take}
use Rattle.party_views.specs.ViewsByMember.{late_in_rows}
use Rattle.party_views.proofs.governed.Members.polls_governed.Given as goal

-- what is governed for the first polls
abbrev pub invariant-loop-poll : goal.invariant-loop-poll
invariant-loop-poll l = l.polls ≡ map (late_in_rows l.self.rows.now l.member l.number) (take l.poll-index l.late)
