-- In a meeting of one session, what is asked of a session is asked of the meeting.
use Rattle.std.proofs.Common.{◌≡◌, ℕ, zero, suc, ◌-◌, Bool, true, ◌&&◌, cond, List, [], ◌∷◌, filter, length, map, refl, ap, ◌∙◌, arith}
use Rattle.std.specs.Prelude.{◌==◌, nat_le, Option, Some}
use Rattle.std.specs.Cmp.{first_so, second_so}
use Rattle.std.specs.List.{list_all, list_any, slice_get}
use Rattle.std.specs.Option.{option_map_or, unwrap_or}
use Rattle.std.proofs.Math.Bool.{and-true}
use Rattle.std.proofs.lemmas.Bool.Decides.{nat_tests}
use Rattle.seq.proofs.Filtered.{all-filter, any-filter}
use Rattle.seq.specs.Ordered.{differ_by}
use Rattle.vocabulary.specs.Names.{same_name}
use Rattle.vocabulary.specs.Places.{Places}
use Rattle.desk_words.proofs.OfficeFacts.{meeting_facts}
use Rattle.desk_words.specs.Finding.{poll_on}
use Rattle.desk_words.specs.Office.{is_demand, is_meeting, is_resolution, same_demand, same_presence}
use Rattle.desk_words.specs.Sessions.{is_session, last_number, open_there, session_of}
use Rattle.desk_words.specs.declared.office.MeetingLists.{MeetingLists}
use Rattle.desk_words.specs.declared.own_things.SessionGoverned.{SessionGoverned}
use Rattle.desk_words.specs.declared.records.Appointment.{Appointment}
use Rattle.desk_words.specs.declared.records.DemandMark.{DemandMark}
use Rattle.desk_words.specs.declared.records.Meeting.{Meeting}
use Rattle.desk_words.specs.declared.records.Poll.{Poll}
use Rattle.desk_words.specs.declared.records.PresenceMark.{PresenceMark}
use Rattle.desk_words.specs.declared.records.Session.{Session}
use Rattle.proxy_rules.specs.Cutoffs.{is_late_poll, late_cutoffs, session_cutoffs}
use Rattle.proxy_rules.specs.Parties.{is_demanded_by, is_presence_of, names}
use Rattle.proxy_rules.specs.Uses.{Acts, Votes, Vote, vote_on}
use Rattle.proxy_rules.specs.declared.meeting_records.Cutoffs.{Cutoffs}
use Rattle.poll_rules.proofs.GatherLemmas.{list_any-map}
use Rattle.poll_rules.specs.Demands.{demand_by, has_demanded, shares_demanding}
use Rattle.poll_rules.specs.Quorum.{is_counted, is_quorum}
use Rattle.poll_rules.specs.Roles.{roles_of}
use Rattle.vote_rules.specs.Tallies.{tally_of}
use Rattle.caller_view.specs.AttendanceRulings.{is_demand_now, is_present, own_demanded}
use Rattle.caller_view.specs.Notices.{noticed_session}
use Rattle.party_views.specs.OwnViews.{known_to_proxy}
use Rattle.party_views.specs.SessionLists.{at_session, enumerate_from}
use Rattle.party_views.specs.Views.{own_in}
use Rattle.office_decisions.specs.PresenceRulings.{is_mark_now, is_marked}
use Rattle.laws_step.specs.DemandsAndGoverning.{governed_for_poll, governed_in_session, known_in, shares_governed}
use Rattle.laws_step.specs.OneSession.{OneSessionHasTheCutoffs, OneSessionIsCountedAlike, OneSessionIsKnown, OneSessionIsNoticed, OneSessionIsOneMeeting, OneSessionIsReadAlike, OneSessionIsTheLast, cutoffs_at_meeting, has_demanded_ever, known_at_meeting}
use Rattle.laws_step.proofs.AnyLemmas.{any-alike}
use Rattle.laws_step.proofs.StepNumberLemmas.{In-filter}
use Rattle.laws_step.proofs.OwnThingsLemmas.{map-alike, what_governs}

-- ---- the session

pub one_last : OneSessionIsTheLast
one_last meeting one = record {
  number = ap (λ (later : List Session). suc (length later)) one;
  session = ap (λ (later : List Session). unwrap_or (slice_get later (length later - 1)) meeting.first) one;
  opened = λ moment. ap (λ (later : List Session). open_there moment meeting (slice_get later (length later - 1))) one;
}

-- the session of any number is the first
session-first : (meeting : Meeting) (number : ℕ) → meeting.later ≡ [] → session_of meeting number ≡ meeting.first
session-first meeting zero one = refl
session-first meeting (suc zero) one = refl
session-first meeting (suc (suc at)) one = ap (λ (later : List Session). unwrap_or (slice_get later at) meeting.first) one

-- ---- cutoffs

pub one_cutoffs : OneSessionHasTheCutoffs
one_cutoffs meeting (Acts number) closed now one = ap (λ s. session_cutoffs s meeting.first closed now) (session-first meeting number one)
one_cutoffs meeting (Votes number) closed now one = ap (λ s. session_cutoffs s s closed now) (session-first meeting number one)
one_cutoffs meeting (Vote poll) closed now one =
    ap (λ s. cond (is_late_poll closed poll) (late_cutoffs poll closed) (session_cutoffs s s closed now)) (session-first meeting poll.session one)

pub one_count : OneSessionIsCountedAlike
one_count m closed now resolution one =
    let found = poll_on m.polls resolution in
    ap (λ cutoffs. tally_of cutoffs m.register m.appointments m.endings m.authorities m.casts resolution)
    (one_cutoffs m.meeting (vote_on (last_number m.meeting) found) closed now one
    ∙ ap (λ number. cutoffs_at_meeting m.meeting (vote_on number found) closed now) (one_last m.meeting one).number)

-- ---- what governs

-- what an appointment governs in each session
sessions-one : (m : MeetingLists) (closed : List ℕ) (now : ℕ) (a : Appointment) → m.meeting.later ≡ []
    → enumerate_from (λ number (s : Session). governed_in_session m closed now a number) 1 (m.meeting.first ∷ m.meeting.later)
    ≡ governed_in_session m closed now a 1 ∷ []
sessions-one m closed now a one =
    ap (λ (later : List Session). governed_in_session m closed now a 1 ∷ enumerate_from (λ number (s : Session). governed_in_session m closed now a number) 2 later) one

pub one_known : OneSessionIsKnown
one_known m closed party now h one =
    let received = filter (names party) m.appointments in
    what_governs m closed party now h
    ∙ map-alike (known_in m closed now) (known_at_meeting m closed now) received
    (λ a here.
    let late = filter (is_late_poll closed) m.polls in
    let sessions = sessions-one m closed now a one in
    let polls = map-alike (governed_for_poll m closed now a) (λ (poll : Poll). record { resolution = poll.resolution; governs = shares_governed m (late_cutoffs poll closed) a }) late
    (λ poll among.
    let own = session_of m.meeting poll.session in
    ap (λ b. record { resolution = poll.resolution; governs = shares_governed m (cond b (late_cutoffs poll closed) (session_cutoffs own own closed now)) a })
    (In-filter (is_late_poll closed) m.polls poll among).passes) in
    λ i. known_to_proxy a (sessions i) (polls i))

-- of one session there is one, whatever number is asked for
only-session : {X : Type 0} (x : X) (session : ℕ) → at_session (x ∷ []) session ≡ Some x
only-session x zero = refl
only-session x (suc zero) = refl
only-session x (suc (suc at)) = refl

pub one_read : OneSessionIsReadAlike
one_read r governs session one =
    let shown : (SessionGoverned → List Places) → Option SessionGoverned → List Places = λ part found. option_map_or part found [] in
    let found = ap (λ sessions. at_session sessions session) one ∙ only-session (record { acts = governs; votes = governs }) session in
    record {
      acts = ap (shown (λ (s : SessionGoverned). s.acts)) found;
      votes = ap (shown (λ (s : SessionGoverned). s.votes)) found;
    }

-- ---- presences and demands

-- a session of the meeting is the last
session-last : (meeting : Meeting) (number : ℕ) → meeting.later ≡ [] → is_session meeting number ≡ true → (number == last_number meeting) ≡ true
session-last meeting number one is =
    let last = (one_last meeting one).number in
    let least = first_so (nat_le 1 number) (nat_le number (last_number meeting)) is in
    let most = second_so (nat_le 1 number) (nat_le number (last_number meeting)) is in
    at_one number (last_number meeting) last least most
  where
    at_one : (number last : ℕ) → last ≡ 1 → nat_le 1 number ≡ true → nat_le number last ≡ true → (number == last) ≡ true
    at_one number last is least most = grind (arith, nat_tests, is, least, most)

-- where all values pass, they are those that do
filter-all : {X : Type 0} (preserved test : X → Bool) (xs : List X) → list_all preserved xs ≡ true → ((x : X) → preserved x ≡ true → test x ≡ true) → filter test xs ≡ xs
filter-all preserved test [] all passes = refl
filter-all preserved test (x ∷ xs) all passes =
    ap (λ b. cond b (x ∷ filter test xs) (filter test xs)) (passes x (first_so (preserved x) (list_all preserved xs) all))
    ∙ ap (λ rest. x ∷ rest) (filter-all preserved test xs (second_so (preserved x) (list_all preserved xs) all) passes)

module _ (m : MeetingLists) (closed : List ℕ) (now : ℕ) (h : is_meeting m ≡ true) (one : m.meeting.later ≡ []) where
  abbrev last : ℕ
  last = last_number m.meeting

  -- the mark is of a session of the meeting
  abbrev is_marked_in : PresenceMark → Bool
  is_marked_in mark = is_session m.meeting mark.session

  marks : list_all is_marked_in m.presences ≡ true
  marks = first_so (list_all is_marked_in m.presences) (differ_by same_presence m.presences) (meeting_facts m h).presences

  made : list_all (is_demand m.meeting) m.demands ≡ true
  made = first_so (list_all (is_demand m.meeting) m.demands) (differ_by same_demand m.demands) (meeting_facts m h).demands

  -- a demand is made in the last session
  demand-last : (d : DemandMark) → is_demand m.meeting d ≡ true → (d.session == last) ≡ true
  demand-last d is = session-last m.meeting d.session one (first_so (is_session m.meeting d.session) (is_resolution (length m.meeting.resolutions) d.resolution) is)

  one-marked : (party : List ℕ) → is_marked m.meeting m.presences party ≡ list_any (is_presence_of party) m.presences
  one-marked party =
      any-alike is_marked_in (is_mark_now m.meeting party) (is_presence_of party) m.presences marks
      (λ mark is. ap (λ b. same_name mark.party party && b) (session-last m.meeting mark.session one is) ∙ and-true (same_name mark.party party))

  one-present : (party : List ℕ) → is_present m.meeting (own_in m closed party now) ≡ list_any (is_presence_of party) m.presences
  one-present party =
      list_any-map (λ session. session == last) (λ (mark : PresenceMark). mark.session) (filter (is_presence_of party) m.presences)
      ∙ any-filter (λ (mark : PresenceMark). mark.session == last) (is_presence_of party) m.presences
      ∙ one-marked party

  one-demanded : (party : List ℕ) (resolution : ℕ) → own_demanded m.meeting (own_in m closed party now) resolution
      ≡ list_any (λ (d : DemandMark). d.resolution == resolution) (filter (is_demanded_by party) m.demands)
  one-demanded party resolution =
      any-alike (is_demand m.meeting) (is_demand_now m.meeting resolution) (λ (d : DemandMark). d.resolution == resolution) (filter (is_demanded_by party) m.demands)
      (all-filter (is_demand m.meeting) (is_demanded_by party) m.demands made)
      (λ d is. ap (λ b. b && (d.resolution == resolution)) (demand-last d is))

  one-person : (resolution : ℕ) (person : List ℕ) → has_demanded m.demands last resolution person ≡ has_demanded_ever m.demands resolution person
  one-person resolution person =
      any-alike (is_demand m.meeting) (λ (d : DemandMark). ((d.session == last) && (d.resolution == resolution)) && same_name d.party person)
      (λ (d : DemandMark). (d.resolution == resolution) && same_name d.party person) m.demands made
      (λ d is. ap (λ b. (b && (d.resolution == resolution)) && same_name d.party person) (demand-last d is))

pub one_meeting : OneSessionIsOneMeeting
one_meeting m closed now h one =
    let last = last_number m.meeting in
    let acts = one_cutoffs m.meeting (Acts last) closed now one in
    let all = filter-all (λ (mark : PresenceMark). is_session m.meeting mark.session) (λ (mark : PresenceMark). mark.session == last) m.presences (marks m closed now h one)
    (λ mark is. session-last m.meeting mark.session one is) in
    record {
      present = one-present m closed now h one;
      marked = one-marked m closed now h one;
      quorum = λ i. is_quorum (filter is_counted m.register) (roles_of (acts i) m.register m.appointments m.endings m.authorities) (map (λ (mark : PresenceMark). mark.party) (all i));
      demanded = one-demanded m closed now h one;
      demand = λ resolution i. demand_by (shares_demanding (λ person. one-person m closed now h one resolution person i) (acts i) m.appointments m.endings m.authorities) m.register;
    }

-- ---- the notice

pub one_notice : OneSessionIsNoticed
one_notice meeting polls closed now one = record {
  first = refl;
  later = ap (enumerate_from (noticed_session meeting closed now) 2) one;
  cutoff = λ public. ap (λ (cutoffs : Cutoffs). cutoffs.appointments) (one_cutoffs meeting (Votes (last_number meeting)) public.closed now one);
}
