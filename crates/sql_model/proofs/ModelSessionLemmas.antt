-- Where no further session is kept, as in tables of version 1, each meeting has one session.
use Rattle.std.proofs.Common.{◌==◌, Bool, length}
use Rattle.desk_words.specs.declared.office.MeetingLists.{MeetingLists}

-- the meeting was never adjourned
abbrev pub has_one_session : MeetingLists → Bool
has_one_session x = length x.meeting.later == 0
