use Rattle.std.proofs.Common.{◌≡◌, take}
use Rattle.desk_words.specs.declared.records.Session.{Session}
use Rattle.party_views.specs.ViewsByMember.{cutoffs_in_session}
use Rattle.party_views.specs.SessionLists.{enumerate_from}
use Rattle.party_views.proofs.governed.all_cutoffs.Given as goal

-- those of the first of the later sessions
abbrev pub invariant-loop-session : goal.invariant-loop-session
invariant-loop-session l =
    l.later.items ≡ enumerate_from (λ number (s : Session). cutoffs_in_session l.meeting l.closed l.now number) 2 (take l._session-index l.meeting.later)
