-- What is public of a meeting.
use Rattle.std.specs.Prelude.{List, Option}
use Rattle.desk_words.specs.ViewTypes.{Day}
use Rattle.desk_words.specs.declared.records.Meeting.{Meeting}
use Rattle.desk_words.specs.declared.records.Poll.{Poll}

-- the closed days (section 1173), and, where the meeting exists, the meeting and its polls in the
-- order of resolutions
pub record PublicRecord : Type 0 where
  pub closed : List Day
  pub meeting : Option Meeting
  pub polls : List Poll
