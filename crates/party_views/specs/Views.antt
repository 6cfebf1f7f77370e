-- What a party may see of an office.
use Rattle.std.specs.Prelude.{List, [], Option, Some, None, option_map}
use Rattle.desk_words.specs.Finding.{meeting_named}
use Rattle.desk_words.specs.ViewTypes.{Day, MeetingName, Moment, Party}
use Rattle.desk_words.specs.declared.office.OfficeLists.{OfficeLists}
use Rattle.desk_words.specs.declared.office.MeetingLists.{MeetingLists}
use Rattle.desk_words.specs.declared.records.Poll.{Poll}
use Rattle.party_views.specs.OwnViews.{own_from}
use Rattle.party_views.specs.PartyRows.{own_rows_in, own_rows}
use Rattle.party_views.specs.Public.{PublicRecord}
use Rattle.party_views.specs.declared.views.OwnView.{OwnView}

-- the lists of the meeting of a name in an office
abbrev pub meeting_at : OfficeLists → MeetingName → Option MeetingLists
meeting_at office id = meeting_named office.meetings id

-- the polls of a meeting, and none where there is no meeting
abbrev pub polls_in : Option MeetingLists → List Poll
polls_in None = []
polls_in (Some m) = m.polls

-- the public record of a meeting that is found; where none is, the closed days alone
abbrev pub public_in : Option MeetingLists → List Day → PublicRecord
public_in found closed = record {
  closed = closed;
  meeting = option_map (λ (m : MeetingLists). m.meeting) found;
  polls = polls_in found;
}

-- the public record of a meeting
abbrev pub public_of : OfficeLists → MeetingName → PublicRecord
public_of office id = public_in (meeting_at office id) office.closed

-- the own things of a party in a meeting that is found, by the closed days as they stand, at a
-- moment
abbrev pub own_in_some : Option MeetingLists → List Day → Party → Moment → OwnView
own_in_some found closed party now = own_from (own_rows_in found party) (public_in found closed) now

-- the own things of a party in a meeting, by the closed days as they stand, at a moment
abbrev pub own_in : MeetingLists → List Day → Party → Moment → OwnView
own_in m closed party now = own_from (own_rows m party) (public_in (Some m) closed) now

-- the own things of a party in a meeting of an office, at a moment: from its rows and the public
-- record
abbrev pub own_of : OfficeLists → Party → MeetingName → Moment → OwnView
own_of office party id now =
    own_from (own_rows_in (meeting_at office id) party) (public_of office id) now
