-- What a change adds keeps its limits.
use Rattle.std.specs.Prelude.{Bool, true, Option}
use Rattle.std.specs.Option.{option_map_or}
use Rattle.desk_words.specs.SortedLists.{are_resolutions, is_day_list, is_key_list}
use Rattle.desk_words.specs.Office.{is_tally}
use Rattle.desk_words.specs.Registers.{is_register}
use Rattle.desk_words.specs.declared.change.Change.{Change}
use Rattle.desk_words.specs.declared.change.Change.TheVariants.{AddMeeting, SetClosedDays, SetKeys, InMeeting}
use Rattle.desk_words.specs.declared.change.MeetingChange.{MeetingChange}
use Rattle.desk_words.specs.declared.change.MeetingChange.TheVariants.{SetRegister, SetPoll}
use Rattle.desk_words.specs.declared.change.PollChange.TheVariants.{Declared}

-- in a meeting, a register and a count keep their own limits
abbrev pub is_within_limits : MeetingChange → Bool
is_within_limits (SetRegister rows) = is_register rows
is_within_limits (SetPoll resolution (Declared tally)) = is_tally tally
is_within_limits other = true

-- a meeting keeps the limits of resolutions, and lists of days and of keys their own
abbrev pub keeps_limits : Change → Bool
keeps_limits (AddMeeting meeting) = are_resolutions meeting.resolutions
keeps_limits (SetClosedDays days) = is_day_list days
keeps_limits (SetKeys rows) = is_key_list rows
keeps_limits (InMeeting meeting change) = is_within_limits change

-- if there is a change, it keeps its limits
abbrev pub if_any : {C : Type 0} → (C → Bool) → Option C → Bool
if_any test change = option_map_or test change true
