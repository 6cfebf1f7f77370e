-- A meeting that was never adjourned has one session: what is asked of a session there is asked of
-- the meeting.
use Rattle.std.specs.Prelude.{◌≡◌, Bool, true, ◌&&◌, ◌==◌, List, [], ◌∷◌, map, filter, if◌then◌else◌}
use Rattle.std.specs.List.{list_any}
use Rattle.std.specs.Option.{unwrap_or}
use Rattle.vocabulary.specs.Names.{same_name}
use Rattle.vocabulary.specs.Places.{Places}
use Rattle.desk_words.specs.Finding.{poll_on}
use Rattle.desk_words.specs.Office.{is_meeting}
use Rattle.desk_words.specs.ViewTypes.{Day, Moment, Number, Party, SessionNumber}
use Rattle.desk_words.specs.Sessions.{last_number, last_session, open_last, opened_at}
use Rattle.desk_words.specs.declared.limits.TheConstants.{HOURS_BEFORE_MEETING}
use Rattle.desk_words.specs.declared.office.MeetingLists.{MeetingLists}
use Rattle.desk_words.specs.declared.own_things.Received.{Received}
use Rattle.desk_words.specs.declared.records.Appointment.{Appointment}
use Rattle.desk_words.specs.declared.records.DemandMark.{DemandMark}
use Rattle.desk_words.specs.declared.records.Meeting.{Meeting}
use Rattle.desk_words.specs.declared.records.Poll.{Poll}
use Rattle.desk_words.specs.declared.records.PresenceMark.{PresenceMark}
use Rattle.proxy_rules.specs.Cutoffs.{back_or_first, cutoffs_of, is_late_poll, late_cutoffs}
use Rattle.proxy_rules.specs.Parties.{is_demanded_by, is_presence_of, names}
use Rattle.proxy_rules.specs.Uses.{Use, Acts, Votes, Vote, vote_on}
use Rattle.proxy_rules.specs.declared.meeting_records.Cutoffs.{Cutoffs}
use Rattle.poll_rules.specs.Demands.{demand_by, shares_demanding}
use Rattle.poll_rules.specs.Quorum.{is_counted, is_quorum}
use Rattle.poll_rules.specs.Roles.{roles_of}
use Rattle.poll_rules.specs.declared.demand.Demand.{Demand}
use Rattle.vote_rules.specs.Tallies.{tally_of}
use Rattle.caller_view.specs.AppointmentRulings.{cutoff_in}
use Rattle.caller_view.specs.AttendanceRulings.{is_present, own_demanded}
use Rattle.caller_view.specs.Notices.{notice_of}
use Rattle.party_views.specs.OwnViews.{known_to_proxy}
use Rattle.party_views.specs.Public.{PublicRecord}
use Rattle.caller_view.specs.Rights.{governed_acts, governed_votes}
use Rattle.party_views.specs.Views.{own_in}
use Rattle.office_decisions.specs.PresenceRulings.{demand_noted, is_marked, quorum_in}
use Rattle.office_decisions.specs.PollRulings.{tally_in}
use Rattle.laws_step.specs.DemandsAndGoverning.{shares_governed}

-- ---- the session

-- the last session is the first, and the one that is opened
pub record LastIsFirst (meeting : Meeting) : Type 0 where
  pub number : last_number meeting ≡ 1
  pub session : last_session meeting ≡ meeting.first
  pub opened : (moment : Moment)
      → open_last moment meeting ≡ record meeting { first = opened_at moment meeting.first }

-- so it is in a meeting that was never adjourned
abbrev pub OneSessionIsTheLast : Type 0
OneSessionIsTheLast = (meeting : Meeting) → meeting.later ≡ [] → LastIsFirst meeting

-- ---- cutoffs

-- the cutoffs of a meeting, for acts and for votes: an appointment counts up to
-- `HOURS_BEFORE_MEETING` hours of working time before the appointed time, an ending before the
-- opening, or before now where the meeting is not opened (sections 327 and 330)
abbrev pub meeting_cutoffs : Meeting → List Day → Moment → Cutoffs
meeting_cutoffs meeting closed now = record {
  appointments = back_or_first closed HOURS_BEFORE_MEETING meeting.first.appointed;
  endings = unwrap_or meeting.first.opened now;
}

-- those for each use: of a late poll its own, and else those of the meeting
abbrev pub cutoffs_at_meeting : Meeting → Use → List Day → Moment → Cutoffs
cutoffs_at_meeting meeting (Acts session) closed now = meeting_cutoffs meeting closed now
cutoffs_at_meeting meeting (Votes session) closed now = meeting_cutoffs meeting closed now
cutoffs_at_meeting meeting (Vote poll) closed now =
    if is_late_poll closed poll
    then late_cutoffs poll closed
    else meeting_cutoffs meeting closed now

-- a meeting that was never adjourned has these, whatever session is asked for
abbrev pub OneSessionHasTheCutoffs : Type 0
OneSessionHasTheCutoffs =
    (meeting : Meeting) (purpose : Use) (closed : List Day) (now : Moment) → meeting.later ≡ []
    → cutoffs_of meeting purpose closed now ≡ cutoffs_at_meeting meeting purpose closed now

-- the count of the votes on a resolution is by these
abbrev pub OneSessionIsCountedAlike : Type 0
OneSessionIsCountedAlike =
    (m : MeetingLists) (closed : List Day) (now : Moment) (resolution : Number)
    → m.meeting.later ≡ []
    → tally_in m closed now resolution
    ≡ tally_of
    (cutoffs_at_meeting m.meeting (vote_on 1 (poll_on m.polls resolution)) closed now) m.register
    m.appointments m.endings m.authorities m.casts resolution

-- ---- what governs

-- an appointment as its proxy is to know it: with one list of what it governs at the meeting, and
-- what it governs for votes on each late poll
abbrev pub known_at_meeting : MeetingLists → List Day → Moment → Appointment → Received
known_at_meeting m closed now a =
    let governs = shares_governed m (meeting_cutoffs m.meeting closed now) a in
    known_to_proxy a (record { acts = governs; votes = governs } ∷ [])
    (map
    (λ (poll : Poll).
    record {
      resolution = poll.resolution;
      governs = shares_governed m (late_cutoffs poll closed) a;
    })
    (filter (is_late_poll closed) m.polls))

-- in a meeting that was never adjourned own things show a proxy this
abbrev pub OneSessionIsKnown : Type 0
OneSessionIsKnown =
    (m : MeetingLists) (closed : List Day) (party : Party) (now : Moment) → is_meeting m ≡ true
    → m.meeting.later ≡ []
    → (own_in m closed party now).received
    ≡ map (known_at_meeting m closed now) (filter (names party) m.appointments)

-- whatever session is asked for, the list is read for its acts and its votes
pub record IsReadAlike (r : Received) (governs : List Places) (session : SessionNumber) : Type 0
  where
    pub acts : governed_acts session r ≡ governs
    pub votes : governed_votes session r ≡ governs

abbrev pub OneSessionIsReadAlike : Type 0
OneSessionIsReadAlike =
    (r : Received) (governs : List Places) (session : SessionNumber)
    → r.sessions ≡ record { acts = governs; votes = governs } ∷ []
    → IsReadAlike r governs session

-- ---- presences and demands

-- the person demanded a poll on the resolution, in whatever session
abbrev pub has_demanded_ever : List DemandMark → Number → Party → Bool
has_demanded_ever demands resolution person =
    list_any (λ (d : DemandMark). d.resolution == resolution && same_name d.party person) demands

-- whether all who are present make a quorum (section 318)
abbrev pub quorum_at_meeting : MeetingLists → List Day → Moment → Bool
quorum_at_meeting m closed now =
    is_quorum (filter is_counted m.register)
    (roles_of (meeting_cutoffs m.meeting closed now) m.register m.appointments m.endings
    m.authorities)
    (map (λ (mark : PresenceMark). mark.party) m.presences)

-- the demand of a poll on a resolution, by all who demanded it (section 321)
abbrev pub demand_at_meeting : MeetingLists → List Day → Moment → Number → Demand
demand_at_meeting m closed now resolution =
    demand_by
    (shares_demanding (has_demanded_ever m.demands resolution)
    (meeting_cutoffs m.meeting closed now) m.appointments m.endings m.authorities)
    m.register

-- a presence, and a demand, is one at the meeting: to the party itself, to the office that marks
-- it, and where persons and shares are counted
pub record IsOneMeeting (m : MeetingLists) (closed : List Day) (now : Moment) : Type 0 where
  pub present : (party : Party)
      → is_present m.meeting (own_in m closed party now)
      ≡ list_any (is_presence_of party) m.presences
  pub marked : (party : Party)
      → is_marked m.meeting m.presences party ≡ list_any (is_presence_of party) m.presences
  pub quorum : quorum_in m closed now ≡ quorum_at_meeting m closed now
  pub demanded : (party : Party) (resolution : Number)
      → own_demanded m.meeting (own_in m closed party now) resolution
      ≡ list_any (λ (d : DemandMark). d.resolution == resolution)
      (filter (is_demanded_by party) m.demands)
  pub demand : (resolution : Number)
      → demand_noted m closed now resolution ≡ demand_at_meeting m closed now resolution

abbrev pub OneSessionIsOneMeeting : Type 0
OneSessionIsOneMeeting =
    (m : MeetingLists) (closed : List Day) (now : Moment) → is_meeting m ≡ true
    → m.meeting.later ≡ [] → IsOneMeeting m closed now

-- ---- the notice

-- what the notice says of the meeting's time, and until when an appointment counts, is one
pub record IsNoticedAsOne (meeting : Meeting) (polls : List Poll) (closed : List Day) (now : Moment)
    : Type 0 where
  pub first : (notice_of meeting polls closed now).first
      ≡ record {
        appointed = meeting.first.appointed;
        cutoff = (meeting_cutoffs meeting closed now).appointments;
        opened = meeting.first.opened;
      }
  pub later : (notice_of meeting polls closed now).later ≡ []
  pub cutoff : (public : PublicRecord)
      → cutoff_in public meeting now ≡ (meeting_cutoffs meeting public.closed now).appointments

abbrev pub OneSessionIsNoticed : Type 0
OneSessionIsNoticed =
    (meeting : Meeting) (polls : List Poll) (closed : List Day) (now : Moment)
    → meeting.later ≡ [] → IsNoticedAsOne meeting polls closed now
