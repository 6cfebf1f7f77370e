use Rattle.std.proofs.Common.{◌≡◌, true, take}
use Rattle.office_validation.proofs.ValidMeetingLemmas.{are_each, ordered_first}
use Rattle.office_validation.proofs.meetings.check_each.Given as goal

-- the first lists are those of meetings, and stand in order
abbrev pub invariant-loop-lists : goal.invariant-loop-lists
invariant-loop-lists l = (l.meetings ≡ ordered_first l.lists-index l.initial.meetings) × (are_each (take l.lists-index l.initial.meetings) ≡ true)
