-- Cutoffs: until when appointments and endings count (own, after sections 327 and 330).
use Rattle.std.specs.Prelude.{ℕ, Bool, List, if◌then◌else◌}
use Rattle.std.specs.Option.{unwrap_or}
use Rattle.desk_words.specs.ViewTypes.{Day, Moment}
use Rattle.desk_words.specs.declared.limits.TheConstants.{HOURS_BEFORE_LATE_POLL, HOURS_BEFORE_MEETING}
use Rattle.desk_words.specs.declared.records.Meeting.{Meeting}
use Rattle.desk_words.specs.declared.records.Poll.{Poll}
use Rattle.desk_words.specs.declared.records.Session.{Session}
use Rattle.desk_words.specs.Sessions.{session_of}
use Rattle.office_days.specs.WorkingDays.{back, is_late}
use Rattle.proxy_rules.specs.Uses.{Use, Acts, Votes, Vote}
use Rattle.proxy_rules.specs.declared.meeting_records.Cutoffs.{Cutoffs}

-- the moment so many hours of working time before another, or the first moment of all where there
-- is none
abbrev pub back_or_first : List Day → ℕ → Moment → Moment
back_or_first closed hours moment = unwrap_or (back closed hours moment) 0

-- the poll is late, by the closed days as they stand (sections 327 and 330)
abbrev pub is_late_poll : List Day → Poll → Bool
is_late_poll closed poll = is_late closed poll.ordered poll.take

-- for a session: an appointment counts up to `HOURS_BEFORE_MEETING` hours of working time before
-- the time for which it is appointed, an ending before the opening of another session, or before
-- now where that is not opened (sections 327 and 330)
abbrev pub session_cutoffs : Session → Session → List Day → Moment → Cutoffs
session_cutoffs session ended_by closed now = record {
  appointments = back_or_first closed HOURS_BEFORE_MEETING session.appointed;
  endings = unwrap_or ended_by.opened now;
}

-- for a late poll: an appointment counts up to `HOURS_BEFORE_LATE_POLL` hours of working time
-- before the taking, an ending before the taking (sections 327 and 330)
abbrev pub late_cutoffs : Poll → List Day → Cutoffs
late_cutoffs poll closed = record {
  appointments = back_or_first closed HOURS_BEFORE_LATE_POLL poll.take;
  endings = poll.take;
}

-- the cutoffs for each use; all rules name cutoffs by this alone. The articles want appointments as
-- early as section 327(2) lets them, (a) for each session and (b) for a late poll. Endings count by
-- section 330(2) for acts, before the meeting first opened; by 330(3)(a) for votes, before their
-- session opened; and by 330(3)(b) for votes on a late poll
abbrev pub cutoffs_of : Meeting → Use → List Day → Moment → Cutoffs
cutoffs_of meeting (Acts number) closed now =
    session_cutoffs (session_of meeting number) meeting.first closed now
cutoffs_of meeting (Votes number) closed now =
    session_cutoffs (session_of meeting number) (session_of meeting number) closed now
cutoffs_of meeting (Vote poll) closed now =
    if is_late_poll closed poll
    then late_cutoffs poll closed
    else session_cutoffs (session_of meeting poll.session) (session_of meeting poll.session) closed
    now
