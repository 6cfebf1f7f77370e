-- What stands in an office's lists.
use Rattle.std.specs.Prelude.{◌==◌, List, Option, find}
use Rattle.vocabulary.specs.Names.{same_name}
use Rattle.desk_words.specs.ViewTypes.{MeetingName, Number}
use Rattle.desk_words.specs.declared.office.MeetingLists.{MeetingLists}
use Rattle.desk_words.specs.declared.records.Poll.{Poll}

-- the lists of the meeting of a name
abbrev pub meeting_named : List MeetingLists → MeetingName → Option MeetingLists
meeting_named meetings id = find (λ m. same_name m.meeting.id id) meetings

-- the poll on a resolution, if one is ordered (section 321)
abbrev pub poll_on : List Poll → Number → Option Poll
poll_on polls resolution = find (λ (p : Poll). p.resolution == resolution) polls
