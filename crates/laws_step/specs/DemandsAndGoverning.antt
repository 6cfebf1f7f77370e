-- Laws of a party's own things.
use Rattle.std.specs.Prelude.{◌≡◌, true, List, filter, map}
use Rattle.desk_words.specs.Office.{is_meeting}
use Rattle.desk_words.specs.ViewTypes.{Day, Moment, Party, SessionNumber}
use Rattle.desk_words.specs.Sessions.{last_number}
use Rattle.desk_words.specs.declared.office.MeetingLists.{MeetingLists}
use Rattle.desk_words.specs.declared.own_things.PollGoverned.{PollGoverned}
use Rattle.desk_words.specs.declared.own_things.Received.{Received}
use Rattle.desk_words.specs.declared.own_things.SessionGoverned.{SessionGoverned}
use Rattle.desk_words.specs.declared.records.Appointment.{Appointment}
use Rattle.desk_words.specs.declared.records.Poll.{Poll}
use Rattle.vocabulary.specs.Places.{Places}
use Rattle.proxy_rules.specs.Cutoffs.{cutoffs_of, is_late_poll}
use Rattle.proxy_rules.specs.Governing.{governed_in}
use Rattle.proxy_rules.specs.Holdings.{holding_of}
use Rattle.proxy_rules.specs.Parties.{names}
use Rattle.proxy_rules.specs.Uses.{Acts, Votes, Vote}
use Rattle.proxy_rules.specs.declared.meeting_records.Cutoffs.{Cutoffs}
use Rattle.poll_rules.specs.Quorum.{qualifies}
use Rattle.poll_rules.specs.Roles.{roles_of}
use Rattle.caller_view.specs.AttendanceRulings.{may_demand}
use Rattle.party_views.specs.OwnViews.{known_to_proxy}
use Rattle.party_views.specs.SessionLists.{each_session}
use Rattle.party_views.specs.Views.{own_in}

-- a party may demand a poll in the last session, which is read from its own things alone, exactly
-- where some row of the register gives it a capacity in this session, as the quorum counts them
-- (sections 318, 321, 323, 324 and 329)
abbrev pub DemandsByCapacity : Type 0
DemandsByCapacity =
    (m : MeetingLists) (closed : List Day) (party : Party) (now : Moment) → is_meeting m ≡ true
    → may_demand m.meeting (own_in m closed party now)
    ≡ qualifies
    (roles_of (cutoffs_of m.meeting (Acts (last_number m.meeting)) closed now) m.register
    m.appointments m.endings m.authorities party)

-- the shares that an appointment governs in a meeting, in runs, by what the meeting keeps of the
-- member who gave it: its shares, its appointments and its endings (section 324)
abbrev pub shares_governed : MeetingLists → Cutoffs → Appointment → List Places
shares_governed m cutoffs a =
    governed_in cutoffs (holding_of m.register m.appointments m.endings a.member) a.number

-- those that it governs in a session: for acts, and for votes (sections 327 and 330)
abbrev pub governed_in_session : MeetingLists → List Day → Moment → Appointment → SessionNumber
    → SessionGoverned
governed_in_session m closed now a session = record {
  acts = shares_governed m (cutoffs_of m.meeting (Acts session) closed now) a;
  votes = shares_governed m (cutoffs_of m.meeting (Votes session) closed now) a;
}

-- those that it governs for votes on a poll (section 327)
abbrev pub governed_for_poll : MeetingLists → List Day → Moment → Appointment → Poll → PollGoverned
governed_for_poll m closed now a poll = record {
  resolution = poll.resolution;
  governs = shares_governed m (cutoffs_of m.meeting (Vote poll) closed now) a;
}

-- an appointment as its proxy is to know it: with what it governs in each session, and for votes on
-- each late poll
abbrev pub known_in : MeetingLists → List Day → Moment → Appointment → Received
known_in m closed now a =
    known_to_proxy a (each_session (governed_in_session m closed now a) m.meeting)
    (map (governed_for_poll m closed now a) (filter (is_late_poll closed) m.polls))

-- own things tell a proxy of each appointment that names it what it governs by the rules
abbrev pub OwnThingsShowWhatGoverns : Type 0
OwnThingsShowWhatGoverns =
    (m : MeetingLists) (closed : List Day) (party : Party) (now : Moment) → is_meeting m ≡ true
    → (own_in m closed party now).received
    ≡ map (known_in m closed now) (filter (names party) m.appointments)
