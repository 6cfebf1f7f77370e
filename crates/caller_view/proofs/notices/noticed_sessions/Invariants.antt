use Rattle.std.proofs.Common.{◌≡◌, take}
use Rattle.caller_view.specs.Notices.{noticed_session}
use Rattle.party_views.specs.SessionLists.{enumerate_from}
use Rattle.caller_view.proofs.notices.noticed_sessions.Given as goal

abbrev pub invariant-loop-session : goal.invariant-loop-session
invariant-loop-session l =
    l.noticed.items ≡ enumerate_from (noticed_session l.meeting l.closed l.now) 2 (take l.session-index l.meeting.later)
