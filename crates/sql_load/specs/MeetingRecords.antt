-- The records that were found in a meeting.
use Rattle.std.specs.Prelude.{◌≡◌, ◌&&◌, ℕ, Bool, true, nat_le, List, [], ◌∷◌, length, Option, Some}
use Rattle.std.specs.List.{list_all}
use Rattle.std.specs.Option.{option_map_or}
use Rattle.desk_words.specs.Office.{is_resolution}
use Rattle.desk_words.specs.declared.limits.TheConstants.{MOST_RESOLUTIONS}
use Rattle.desk_words.specs.declared.office.MeetingLists.{MeetingLists}
use Rattle.desk_words.specs.declared.records.Poll.{Poll}
use Rattle.desk_words.specs.declared.records.Resolution.{Resolution}
use Rattle.desk_words.specs.declared.records.Session.{Session}
use Rattle.sql_rows.specs.declared.stored_records.InMeeting.{InMeeting}
use Rattle.sql_rows.specs.declared.stored_records.Numbered.{Numbered}

-- a record without its meeting
abbrev pub without_meeting : {A : Type 0} → InMeeting A → A
without_meeting r = r.item

-- the sessions to which a meeting that is found was adjourned
abbrev pub later_in : Option MeetingLists → List Session
later_in found = option_map_or (λ (m : MeetingLists). m.meeting.later) found []

-- the number of the first of these resolutions, or 0 where there are none
abbrev pub last_number : List (InMeeting (Numbered Resolution)) → ℕ
last_number [] = 0
last_number (r ∷ rest) = r.item.number

-- a meeting may have so many resolutions
abbrev pub may_have : ℕ → Bool
may_have count = nat_le 1 count && nat_le count MOST_RESOLUTIONS

-- each of these polls is on one of so many resolutions
abbrev pub are_on : ℕ → List Poll → Bool
are_on count polls = list_all (λ (p : Poll). is_resolution count p.resolution) polls

-- each of these polls is on a resolution of the meeting that is found, if one is
abbrev pub AreOnItsResolutions : Option MeetingLists → List Poll → Type 0
AreOnItsResolutions found polls =
    (m : MeetingLists) → found ≡ Some m → are_on (length m.meeting.resolutions) polls ≡ true

-- the meeting that is found, if one is, may have so many resolutions
abbrev pub MayHave : Option MeetingLists → ℕ → Type 0
MayHave found count = (m : MeetingLists) → found ≡ Some m → may_have count ≡ true
