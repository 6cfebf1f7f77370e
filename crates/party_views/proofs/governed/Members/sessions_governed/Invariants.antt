use Rattle.std.proofs.Common.{◌≡◌, ◌+◌, map, take}
use Rattle.party_views.specs.ViewsByMember.{session_in_rows}
use Rattle.party_views.proofs.governed.Members.sessions_governed.Given as goal

-- what is governed in the first session and in the later ones so far
abbrev pub invariant-loop-session : goal.invariant-loop-session
invariant-loop-session l = l.all ≡ map (session_in_rows l.self.rows.now l.member l.number) (take (l.session-index + 1) l.sessions)
