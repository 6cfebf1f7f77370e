-- A meeting that was adjourned: an ending after it first opened takes nobody's capacity in a later
-- session, and takes the votes there (section 330).
use Rattle.std.specs.Prelude.{◌≡◌, Bool, true, false, ◌&&◌, nat_le, nat_lt, List, [], filter, Some}
use Rattle.std.specs.List.{list_any}
use Rattle.std.specs.Option.{option_map_or, unwrap_or}
use Rattle.desk_words.specs.Office.{is_ending_of, is_meeting}
use Rattle.desk_words.specs.ViewTypes.{Day, Moment, Number, Party, SessionNumber}
use Rattle.desk_words.specs.Sessions.{session_of}
use Rattle.desk_words.specs.declared.office.MeetingLists.{MeetingLists}
use Rattle.desk_words.specs.declared.records.Appointment.{Appointment}
use Rattle.desk_words.specs.declared.records.Ending.{Ending}
use Rattle.desk_words.specs.declared.records.Meeting.{Meeting}
use Rattle.proxy_rules.specs.Cutoffs.{cutoffs_of}
use Rattle.proxy_rules.specs.Uses.{Acts, Votes}
use Rattle.proxy_rules.specs.declared.meeting_records.Cutoffs.{Cutoffs}
use Rattle.poll_rules.specs.Roles.{roles_of}
use Rattle.office_decisions.specs.PresenceRulings.{demand_noted, quorum_in}
use Rattle.laws_step.specs.DemandsAndGoverning.{shares_governed}

-- ---- capacities

-- the endings before a moment
abbrev pub ended_before : Moment → List Ending → List Ending
ended_before moment ended = filter (λ (e : Ending). nat_lt e.moment moment) ended

-- until when appointments and endings count for the capacities of persons in a session
abbrev pub CapacityCutoffs : Type 0
CapacityCutoffs = Meeting → SessionNumber → List Day → Moment → Cutoffs

-- until when they count for its acts
abbrev pub acts_cutoffs : CapacityCutoffs
acts_cutoffs meeting session closed now = cutoffs_of meeting (Acts session) closed now

-- by such cutoffs what was ended once a meeting was first opened takes nobody's capacity in any
-- session: the roles of each person are the same without it (sections 318 and 330(2))
abbrev pub LaterEndingsTakeNoRole : CapacityCutoffs → Type 0
LaterEndingsTakeNoRole cutoffs_in =
    (m : MeetingLists) (opened : Moment) (closed : List Day) (now : Moment)
    (session : SessionNumber) (person : Party) → m.meeting.first.opened ≡ Some opened
    → let cutoffs = cutoffs_in m.meeting session closed now in
    roles_of cutoffs m.register m.appointments m.endings m.authorities person
    ≡ roles_of cutoffs m.register m.appointments (ended_before opened m.endings) m.authorities
    person

-- a meeting without what was ended at a moment or after it
abbrev pub before_endings : Moment → MeetingLists → MeetingLists
before_endings moment m = record m { endings = ended_before moment m.endings }

-- whether there is a quorum, and which shares demand a poll, is the same without it (sections 318,
-- 321 and 330(2))
pub record IsCountedWithout (m : MeetingLists) (opened : Moment) (closed : List Day) (now : Moment)
    : Type 0 where
  pub quorum : quorum_in m closed now ≡ quorum_in (before_endings opened m) closed now
  pub demand : (resolution : Number)
      → demand_noted m closed now resolution
      ≡ demand_noted (before_endings opened m) closed now resolution

abbrev pub LaterEndingsAreNotCounted : Type 0
LaterEndingsAreNotCounted =
    (m : MeetingLists) (opened : Moment) (closed : List Day) (now : Moment)
    → m.meeting.first.opened ≡ Some opened → IsCountedWithout m opened closed now

-- ---- votes

-- the ending is of the appointment, at or after the meeting first opened, and before the session
-- opened, or before now where that is not opened
abbrev pub ends_between : MeetingLists → SessionNumber → Moment → Appointment → Ending → Bool
ends_between m session now a e =
    is_ending_of e a
    && option_map_or (λ opened. nat_le opened e.moment) m.meeting.first.opened false
    && nat_lt e.moment (unwrap_or (session_of m.meeting session).opened now)

-- an appointment that was ended between the openings governs what it would govern for acts in the
-- session had nothing been ended, and nothing for votes there (section 330(2) and (3))
pub record ActsAndDoesNotVote (m : MeetingLists) (session : SessionNumber) (closed : List Day)
    (now : Moment) (a : Appointment) : Type 0 where
  pub acts : let cutoffs = cutoffs_of m.meeting (Acts session) closed now in
      shares_governed m cutoffs a ≡ shares_governed (record m { endings = [] }) cutoffs a
  pub votes : shares_governed m (cutoffs_of m.meeting (Votes session) closed now) a ≡ []

abbrev pub LaterEndingsTakeTheVote : Type 0
LaterEndingsTakeTheVote =
    (m : MeetingLists) (session : SessionNumber) (closed : List Day) (now : Moment)
    (a : Appointment) → is_meeting m ≡ true
    → list_any (ends_between m session now a) m.endings ≡ true
    → ActsAndDoesNotVote m session closed now a
