-- What makes lists an office.
use Rattle.std.specs.Prelude.{ℕ, suc, ◌+◌, Bool, true, false, ◌&&◌, ◌||◌, ◌==◌, nat_le, nat_lt, List, [], ◌∷◌, ◌++◌, length, count_by, Option, Some, None, is_some, if◌then◌else◌}
use Rattle.std.specs.List.{list_all, list_any}
use Rattle.vocabulary.specs.Names.{same_name}
use Rattle.seq.specs.Ordered.{differ_by, ascends_by}
use Rattle.vocabulary.specs.declared.range.TheConstants.{MOST_PLACES}
use Rattle.desk_words.specs.declared.limits.TheConstants.{MOST_APPOINTMENTS, MOST_AUTHORITIES, MOST_CASTS, MOST_MEETINGS}
use Rattle.desk_words.specs.declared.office.OfficeLists.{OfficeLists}
use Rattle.desk_words.specs.declared.office.MeetingLists.{MeetingLists}
use Rattle.desk_words.specs.declared.records.Meeting.{Meeting}
use Rattle.desk_words.specs.declared.records.RegisterRow.{RegisterRow}
use Rattle.desk_words.specs.declared.records.Appointment.{Appointment}
use Rattle.desk_words.specs.declared.records.Ending.{Ending}
use Rattle.desk_words.specs.declared.records.Authority.{Authority}
use Rattle.desk_words.specs.declared.records.PresenceMark.{PresenceMark}
use Rattle.desk_words.specs.declared.records.DemandMark.{DemandMark}
use Rattle.desk_words.specs.declared.records.Poll.{Poll}
use Rattle.desk_words.specs.declared.records.Tally.{Tally}
use Rattle.desk_words.specs.declared.records.CastMark.{CastMark}
use Rattle.desk_words.specs.Registers.{is_register}
use Rattle.desk_words.specs.Sessions.{are_sessions, is_opened, is_opened_session, is_session}
use Rattle.desk_words.specs.SortedLists.{is_key_list, is_day_list, are_resolutions}

-- where the first holds, the second does
abbrev pub implies : Bool → Bool → Bool
implies true b = b
implies false b = true

-- a resolution of a meeting that has so many
abbrev pub is_resolution : ℕ → ℕ → Bool
is_resolution resolutions number = nat_le 1 number && nat_le number resolutions

-- there are no rows
abbrev pub no_rows : List RegisterRow → Bool
no_rows [] = true
no_rows (row ∷ rows) = false

-- there are no rows, or they are a register's (section 113)
abbrev pub are_rows : List RegisterRow → Bool
are_rows rows = no_rows rows || is_register rows

-- rows stand exactly where a register is loaded, and a meeting whose first session is opened is
-- loaded
abbrev pub is_loaded_right : MeetingLists → Bool
is_loaded_right m =
    (if m.meeting.loaded then is_register m.register else no_rows m.register)
    && implies (is_opened m.meeting.first) m.meeting.loaded

-- after the earlier ones, the appointments of each member are numbered on, 1, 2, .. in order of
-- receipt
abbrev pub are_numbered_after : List Appointment → List Appointment → Bool
are_numbered_after earlier [] = true
are_numbered_after earlier (a ∷ rest) =
    a.number == suc (count_by (λ (b : Appointment). same_name b.member a.member) earlier)
    && are_numbered_after (earlier ++ a ∷ []) rest

-- at most `MOST_APPOINTMENTS` of a member, with one instruction for each resolution (sections 324
-- and 324A)
abbrev pub is_appointment : ℕ → Appointment → Bool
is_appointment resolutions a =
    nat_le a.number MOST_APPOINTMENTS && length a.instructions == resolutions

-- the appointments of a meeting, in order of receipt
abbrev pub are_appointments : ℕ → List Appointment → Bool
are_appointments resolutions given =
    are_numbered_after [] given && list_all (is_appointment resolutions) given

-- the ending names the appointment (section 330)
abbrev pub is_ending_of : Ending → Appointment → Bool
is_ending_of e a = same_name a.member e.member && a.number == e.number

-- both end the same appointment
abbrev pub same_ending : Ending → Ending → Bool
same_ending d e = same_name d.member e.member && d.number == e.number

-- each names an appointment of its member, and none is named twice (section 330)
abbrev pub are_endings : List Appointment → List Ending → Bool
are_endings given ended =
    list_all (λ e. list_any (is_ending_of e) given) ended && differ_by same_ending ended

-- both authorise one person to act for one corporation (section 323)
abbrev pub same_authority : Authority → Authority → Bool
same_authority a b = same_name a.corporation b.corporation && same_name a.person b.person

-- at most `MOST_AUTHORITIES` of a party, none of them twice (section 323)
abbrev pub are_authorities : List Authority → Bool
are_authorities given =
    list_all
    (λ (a : Authority). nat_le
    (count_by (λ (b : Authority). same_name b.corporation a.corporation) given) MOST_AUTHORITIES)
    given
    && differ_by same_authority given

-- both are marks of one party in one session
abbrev pub same_presence : PresenceMark → PresenceMark → Bool
same_presence a b = a.session == b.session && same_name a.party b.party

-- marks in sessions of the meeting, none of them twice
abbrev pub are_presences : Meeting → List PresenceMark → Bool
are_presences m presences =
    list_all (λ (p : PresenceMark). is_session m p.session) presences
    && differ_by same_presence presences

-- both are one party's demands on one resolution, in one session (sections 321 and 329)
abbrev pub same_demand : DemandMark → DemandMark → Bool
same_demand a b =
    a.session == b.session && a.resolution == b.resolution && same_name a.party b.party

-- in a session of the meeting, of one of its resolutions
abbrev pub is_demand : Meeting → DemandMark → Bool
is_demand m d =
    is_session m d.session && is_resolution (length m.resolutions) d.resolution

-- demands in the meeting, none of them twice (sections 321 and 329)
abbrev pub are_demands : Meeting → List DemandMark → Bool
are_demands m demands = list_all (is_demand m) demands && differ_by same_demand demands

-- the votes are those of some shares, and the shares are at most `MOST_PLACES` (section 284)
abbrev pub is_tally : Tally → Bool
is_tally t =
    nat_le (t.votes_for + t.votes_against + t.withheld) t.eligible && nat_le t.eligible MOST_PLACES

-- nothing is declared, or a tally
abbrev pub is_declared_right : Option Tally → Bool
is_declared_right None = true
is_declared_right (Some t) = is_tally t

-- in a session that is opened, on a resolution of the meeting; closed only if started, declared
-- only if closed (section 321)
abbrev pub is_poll : Meeting → Poll → Bool
is_poll m p =
    is_opened_session m p.session && is_resolution (length m.resolutions) p.resolution
    && implies (is_some p.closed) (is_some p.started)
    && implies (is_some p.declared) (is_some p.closed) && is_declared_right p.declared

-- the first poll is on an earlier resolution
abbrev pub poll_before : Poll → Poll → Bool
poll_before a b = nat_lt a.resolution b.resolution

-- polls of the meeting, at most one on a resolution, in the order of resolutions (section 321)
abbrev pub are_polls : Meeting → List Poll → Bool
are_polls m polls = list_all (is_poll m) polls && ascends_by poll_before polls

-- the cast is on that poll, and the poll is started
abbrev pub is_cast_on : CastMark → Poll → Bool
is_cast_on c p = p.resolution == c.resolution && is_some p.started

-- both are cast by one voter on one resolution
abbrev pub same_ballot : CastMark → CastMark → Bool
same_ballot a b = a.resolution == b.resolution && same_name a.voter b.voter

-- casts on started polls, at most `MOST_CASTS` of a voter on one of them (sections 284 and 322)
abbrev pub are_casts : List Poll → List CastMark → Bool
are_casts polls casts =
    list_all (λ c. list_any (is_cast_on c) polls) casts
    && list_all (λ c. nat_le (count_by (λ d. same_ballot d c) casts) MOST_CASTS) casts

-- the lists of a meeting
abbrev pub is_meeting : MeetingLists → Bool
is_meeting m =
    are_resolutions m.meeting.resolutions && are_sessions m.meeting && is_loaded_right m
    && are_appointments (length m.meeting.resolutions) m.appointments
    && are_endings m.appointments m.endings && are_authorities m.authorities
    && are_presences m.meeting m.presences && are_demands m.meeting m.demands
    && are_polls m.meeting m.polls && are_casts m.polls m.casts

-- both meetings have one name
abbrev pub same_meeting : MeetingLists → MeetingLists → Bool
same_meeting a b = same_name a.meeting.id b.meeting.id

-- at most `MOST_MEETINGS` meetings, each with a name of its own
abbrev pub are_meetings : List MeetingLists → Bool
are_meetings ms =
    nat_le (length ms) MOST_MEETINGS && differ_by same_meeting ms && list_all is_meeting ms

-- the lists of an office
abbrev pub is_office : OfficeLists → Bool
is_office o = is_key_list o.keys && is_day_list o.closed && are_meetings o.meetings
