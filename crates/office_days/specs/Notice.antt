-- The notice of a general meeting.
use Rattle.std.specs.Prelude.{ℕ, Bool, ℤ, pos, ◌-ℤ◌, int_le}
use Rattle.desk_words.specs.ViewTypes.{Day}
use Rattle.vocabulary.specs.declared.kinds.Company.{Company}
use Rattle.vocabulary.specs.declared.kinds.Company.TheVariants as company
use Rattle.vocabulary.specs.declared.kinds.MeetingKind.{MeetingKind}
use Rattle.vocabulary.specs.declared.kinds.MeetingKind.TheVariants as meeting_kind

-- the days between the day on which notice is given and the day of the meeting, both excluded
-- (section 360); negative where the meeting is no later than the notice
abbrev pub clear_days : Day → Day → ℤ
clear_days given meeting_day = pos meeting_day -ℤ pos given -ℤ pos 1

-- the clear days of notice that a meeting needs: 21 for the annual general meeting of a public
-- company, else 14 (section 307)
abbrev pub days_needed : Company → MeetingKind → ℕ
days_needed company.Public meeting_kind.Annual = 21
days_needed company.Public meeting_kind.General = 14
days_needed company.Private meeting_kind.Annual = 14
days_needed company.Private meeting_kind.General = 14

-- the notice is long enough (sections 307 and 360)
abbrev pub is_enough_notice : Company → MeetingKind → Day → Day → Bool
is_enough_notice company kind given meeting_day =
    int_le (pos (days_needed company kind)) (clear_days given meeting_day)
