use Rattle.std.proofs.Common.{◌≡◌, take}
use Rattle.caller_view.specs.Notices.{noticed_resolution}
use Rattle.party_views.specs.SessionLists.{enumerate_from}
use Rattle.caller_view.proofs.notices.noticed_resolutions.Given as goal

abbrev pub invariant-loop-resolution : goal.invariant-loop-resolution
invariant-loop-resolution l =
    l.noticed.items ≡ enumerate_from (noticed_resolution l.meeting l.public.polls l.public.closed l.now) 1 (take l.resolution-index l.meeting.resolutions)
