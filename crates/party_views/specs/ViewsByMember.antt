-- What is looked up by member and number while a party's own things are made. For private
-- contracts.
use Rattle.std.specs.Prelude.{◌≡◌, ◌<◌, ℕ, Bool, ◌&&◌, ◌==◌, List, length, map, Option, Some, None, option_and_then}
use Rattle.std.specs.BTreeMap.{BTreeMap, get}
use Rattle.std.specs.List.{slice_get}
use Rattle.std.specs.Ordering.{nat_cmp}
use Rattle.vocabulary.specs.Names.{name_cmp}
use Rattle.desk_words.specs.ViewTypes.{Day, Moment, Number, Party, SessionNumber}
use Rattle.desk_words.specs.declared.own_things.Given.{Given}
use Rattle.desk_words.specs.declared.own_things.PollGoverned.{PollGoverned}
use Rattle.desk_words.specs.declared.own_things.Received.{Received}
use Rattle.desk_words.specs.declared.own_things.SessionGoverned.{SessionGoverned}
use Rattle.desk_words.specs.declared.records.Appointment.{Appointment}
use Rattle.desk_words.specs.declared.records.Meeting.{Meeting}
use Rattle.desk_words.specs.declared.records.Poll.{Poll}
use Rattle.proxy_rules.specs.Cutoffs.{cutoffs_of, is_late_poll}
use Rattle.proxy_rules.specs.Uses.{Acts, Votes, Vote}
use Rattle.proxy_rules.specs.declared.meeting_records.Cutoffs.{Cutoffs}
use Rattle.party_views.specs.OwnViews.{governed_by, known_to_proxy, rows_by}
use Rattle.party_views.specs.declared.governed.LatePoll.{LatePoll}
use Rattle.party_views.specs.declared.governed.SessionCutoffs.{SessionCutoffs}
use Rattle.party_views.specs.declared.governed.TheConstants.{FEW}
use Rattle.party_views.specs.declared.own_rows.MemberRows.{MemberRows}

-- a map has the place of each member's rows, and of no others
abbrev pub AreByMember : List MemberRows → BTreeMap Party ℕ → Type 0
AreByMember members places =
    (member : Party)
    → option_and_then (slice_get members) (get name_cmp places member) ≡ rows_by members member

-- and where they are more than a few it does
abbrev pub AreByMemberIfMany : List MemberRows → BTreeMap Party ℕ → Type 0
AreByMemberIfMany members places = FEW < length members → AreByMember members places

-- the cutoffs of the session of a number (sections 327 and 330)
abbrev pub cutoffs_in_session : Meeting → List Day → Moment → SessionNumber → SessionCutoffs
cutoffs_in_session meeting closed now number = record {
  acts = cutoffs_of meeting (Acts number) closed now;
  votes = cutoffs_of meeting (Votes number) closed now;
}

-- both are the same cutoffs
abbrev pub same_cutoffs : Cutoffs → Cutoffs → Bool
same_cutoffs a b = a.appointments == b.appointments && a.endings == b.endings

-- a poll is late, and on the resolution where one is named (section 327)
abbrev pub is_asked_late : Option Number → List Day → Poll → Bool
is_asked_late None closed poll = is_late_poll closed poll
is_asked_late (Some resolution) closed poll =
    poll.resolution == resolution && is_late_poll closed poll

-- a late poll with the cutoffs for votes on it (section 327)
abbrev pub late_of : Meeting → List Day → Moment → Poll → LatePoll
late_of meeting closed now poll = record {
  resolution = poll.resolution;
  cutoffs = cutoffs_of meeting (Vote poll) closed now;
}

-- what a member's appointment of a number governs in a session
abbrev pub session_in_rows : List MemberRows → Party → Number → SessionCutoffs → SessionGoverned
session_in_rows members member number session = record {
  acts = governed_by members session.acts member number;
  votes = governed_by members session.votes member number;
}

-- what a member's appointment of a number governs for a late poll
abbrev pub late_in_rows : List MemberRows → Party → Number → LatePoll → PollGoverned
late_in_rows members member number late = record {
  resolution = late.resolution;
  governs = governed_by members late.cutoffs member number;
}

-- an appointment as its proxy knows it, with what it governs in sessions and for late polls
abbrev pub received_with : List MemberRows → List SessionCutoffs → List LatePoll → Appointment
    → Received
received_with members sessions late a =
    known_to_proxy a (map (session_in_rows members a.member a.number) sessions)
    (map (late_in_rows members a.member a.number) late)

-- an appointment, with its ending as a map keeps it by number
abbrev pub given_with_ending : BTreeMap Number Moment → Appointment → Given
given_with_ending ended a = record { appointment = a; ended = get nat_cmp ended a.number }
