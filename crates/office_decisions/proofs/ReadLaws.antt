-- What is ruled in a meeting is ruled from what is read.
use Rattle.std.proofs.Common.{◌≡◌, ℕ, Bool, true, false, not, cond, ◌&&◌, ◌||◌, nat_le, List, [], ◌∷◌, ◌++◌, filter, length, Option, Some, None, refl, sym, ap, ◌∙◌}
use Rattle.std.specs.Prelude.{◌-◌, ◌==◌, is_none, is_some, option_map}
use Rattle.std.specs.List.{list_all, list_any, slice_get}
use Rattle.seq.specs.Ordered.{ascends_by, differ_by}
use Rattle.desk_words.specs.Finding.{poll_on}
use Rattle.desk_words.specs.Names.{same_name}
use Rattle.desk_words.specs.Office.{are_appointments, implies, is_declared_right, is_meeting, is_resolution, poll_before, same_demand}
use Rattle.desk_words.specs.Rulings.{Ruling, asked_first, no_resolution, noted}
use Rattle.desk_words.specs.Sessions.{is_opened, is_session, is_there, last_number}
use Rattle.desk_words.specs.declared.limits.TheConstants.{MOST_RESOLUTIONS}
use Rattle.desk_words.specs.declared.change.Entry.TheVariants as entry
use Rattle.desk_words.specs.declared.change.MeetingChange.{MeetingChange}
use Rattle.desk_words.specs.declared.change.MeetingChange.TheVariants.{Enter}
use Rattle.desk_words.specs.declared.office.MeetingLists.{MeetingLists}
use Rattle.desk_words.specs.declared.records.DemandMark.{DemandMark}
use Rattle.desk_words.specs.declared.records.Poll.{Poll}
use Rattle.desk_words.specs.declared.records.PresenceMark.{PresenceMark}
use Rattle.desk_words.specs.declared.records.Tally.{Tally}
use Rattle.desk_words.specs.declared.request.NewPoll.{NewPoll}
use Rattle.desk_words.specs.declared.request.OfficeRequest.{OfficeRequest}
use Rattle.desk_words.specs.declared.request.OfficeRequest.TheVariants.{LoadRegister, Presence, OpenMeeting, Adjourn, Order, Start, Close, Declare}
use Rattle.vocabulary.specs.declared.refusal.Refusal.TheVariants.{DemandTooSmall, NoMeeting, NoPoll}
use Rattle.proxy_rules.specs.Cutoffs.{cutoffs_of}
use Rattle.proxy_rules.specs.Uses.{vote_on}
use Rattle.proxy_rules.specs.declared.meeting_records.Cutoffs.{Cutoffs}
use Rattle.vote_rules.specs.Tallies.{tally_of}
use Rattle.vote_rules.proofs.OwnCastLemmas.{own_tally}
use Rattle.desk_words.proofs.OfficeFacts.{MeetingFacts, meeting_facts, meeting_from_facts}
use Rattle.party_views.specs.PublicRead.{counted}
use Rattle.party_views.specs.RowsRead.{polls_on}
use Rattle.party_views.proofs.CountedLemmas.{as_many, session-unread}
use Rattle.office_decisions.specs.OfficeRulings.{office_ruling, ruling_on}
use Rattle.office_decisions.specs.PollRulings.{close_ruling, declare_ruling, declared_answer, order_ruling, result_cases, result_on, start_ruling}
use Rattle.office_decisions.specs.PresenceRulings.{demand_noted}
use Rattle.office_decisions.specs.ListsRead.{days_read, lists_read, poll_alone, RulingsReadNoMore, ReadMeetingsAreMeetings}
use Rattle.office_decisions.proofs.FirstRead.{first-read, ordering-counted}
use Rattle.office_decisions.proofs.OnResolution.{casts_preserved, poll_preserved, polls_preserved}

-- whether one that is kept passes is known from those that are kept
any_passing : {X : Type 0} (keeps passes : X → Bool) (xs : List X) → list_any (λ x. keeps x && passes x) (filter keeps xs) ≡ list_any (λ x. keeps x && passes x) xs
any_passing keeps passes [] = refl
any_passing keeps passes (x ∷ xs) = go (keeps x) refl (any_passing keeps passes xs)
  where
    go : (b : Bool) → keeps x ≡ b → list_any (λ x. keeps x && passes x) (filter keeps xs) ≡ list_any (λ x. keeps x && passes x) xs
        → list_any (λ x. keeps x && passes x) (cond b (x ∷ filter keeps xs) (filter keeps xs)) ≡ ((b && passes x) || list_any (λ x. keeps x && passes x) xs)
    go true is rest = λ i. (is i && passes x) || rest i
    go false is rest = rest

-- a poll is ordered by the chair, or on demand
order_by : (chair : Bool) (resolution take now : ℕ) (closed : List ℕ) (m : MeetingLists)
    → order_ruling (cond chair (poll_alone resolution m) (record m { meeting = counted m.meeting; presences = []; polls = polls_on resolution m.polls; casts = [] })) (cond chair [] closed) now
    (record { resolution = resolution; take = take; chair = chair })
    ≡ order_ruling m closed now (record { resolution = resolution; take = take; chair = chair })
order_by true resolution take now closed m =
    let new : NewPoll = record { resolution = resolution; take = take; chair = true } in
    λ i. record (order_ruling m closed now new) { cases = first-read (Order new) now m i ++ record { refusal = DemandTooSmall; holds = false } ∷ [] }
order_by false resolution take now closed m =
    let new : NewPoll = record { resolution = resolution; take = take; chair = false } in
    λ i. record (order_ruling m closed now new) {
      cases = ordering-counted m now new i ++ record { refusal = DemandTooSmall; holds = not (demand_noted m closed now resolution).reached } ∷ [];
    }

-- a poll is declared by the count of the votes on its resolution
declared_so : (resolution now : ℕ) (closed : List ℕ) (m : MeetingLists) → declare_ruling (lists_read (Declare resolution) m) closed now resolution ≡ declare_ruling m closed now resolution
declared_so resolution now closed m =
    let cutoffs : Option Poll → Cutoffs = λ found. cutoffs_of m.meeting (vote_on (last_number m.meeting) found) closed now in
    let ruled : Option Poll → Tally → Ruling MeetingChange = λ found tally. record {
      cases = no_resolution m.meeting resolution ∷ record { refusal = NoPoll; holds = is_none found } ∷ result_cases found;
      accepted = declared_answer resolution (result_on (slice_get m.meeting.resolutions (resolution - 1)) tally);
    } in
    let read = poll_on (polls_on resolution m.polls) resolution in
    ap (ruled read) (own_tally (cutoffs read) m.register m.appointments m.endings m.authorities m.casts resolution)
    ∙ ap (λ found. ruled found (tally_of (cutoffs found) m.register m.appointments m.endings m.authorities m.casts resolution)) (poll_preserved resolution m.polls)

-- in a meeting
ruled_so : (what : OfficeRequest) (now : ℕ) (closed : List ℕ) (m : MeetingLists) → ruling_on (days_read what closed) now what (lists_read what m) ≡ ruling_on closed now what m
ruled_so (LoadRegister new) now closed m = refl
ruled_so (Presence party) now closed m =
    let ruled : Bool → Ruling MeetingChange = λ marked. record { cases = []; accepted = noted marked (Enter (entry.Presence (record { session = last_number m.meeting; party = party; moment = now }))) } in
    ap ruled (any_passing (λ (mark : PresenceMark). same_name mark.party party) (λ (mark : PresenceMark). mark.session == last_number m.meeting) m.presences)
ruled_so OpenMeeting now closed m = refl
ruled_so (Adjourn appointed) now closed m = refl
ruled_so (Order new) now closed m = order_by new.chair new.resolution new.take now closed m
ruled_so (Start resolution) now closed m = λ i. record (start_ruling m now resolution) { cases = first-read (Start resolution) now m i }
ruled_so (Close resolution) now closed m = λ i. record (close_ruling m now resolution) { cases = first-read (Close resolution) now m i }
ruled_so (Declare resolution) now closed m = declared_so resolution now closed m

-- and where none may be found
pub read_so : (what : OfficeRequest) (now : ℕ) (closed : List ℕ) (found : Option MeetingLists) → office_ruling (days_read what closed) (option_map (lists_read what) found) now what ≡ office_ruling closed found now what
read_so what now closed None = refl
read_so what now closed (Some m) = ap (λ (ruling : Ruling MeetingChange). asked_first (record { refusal = NoMeeting; holds = false }) ruling) (ruled_so what now closed m)

pub no_more : RulingsReadNoMore
no_more what now closed days found other same alike =
    sym (read_so what now closed found) ∙ (λ i. office_ruling (same i) (alike i) now what) ∙ read_so what now days other

-- ---- what is read is a meeting

-- with as many resolutions of which none is read it is a meeting still
counted_facts : (m : MeetingLists) → is_meeting m ≡ true → MeetingFacts (record m { meeting = counted m.meeting })
counted_facts m h =
    let f = meeting_facts m h in
    let count = length m.meeting.resolutions in
    let same = as_many count in
    record {
      resolutions = ap (λ n. nat_le 1 n && nat_le n MOST_RESOLUTIONS) same ∙ f.resolutions;
      sessions = f.sessions;
      loaded = f.loaded;
      appointments = ap (λ n. are_appointments n m.appointments) same ∙ f.appointments;
      endings = f.endings;
      authorities = f.authorities;
      presences = f.presences;
      demands = ap (λ n. list_all (λ (d : DemandMark). is_session m.meeting d.session && is_resolution n d.resolution) m.demands && differ_by same_demand m.demands) same ∙ f.demands;
      polls =
          (λ i. list_all (λ (p : Poll). is_there is_opened (session-unread count m.meeting p.session i) && is_resolution (same i) p.resolution && implies (is_some p.closed) (is_some p.started)
          && implies (is_some p.declared) (is_some p.closed) && is_declared_right p.declared) m.polls && ascends_by poll_before m.polls)
          ∙ f.polls;
      casts = f.casts;
    }

ordered_meeting : (chair : Bool) (resolution : ℕ) (m : MeetingLists) → not chair ≡ true → is_meeting m ≡ true
    → is_meeting (cond chair (poll_alone resolution m) (record m { meeting = counted m.meeting; presences = []; polls = polls_on resolution m.polls; casts = [] })) ≡ true
ordered_meeting true resolution m reads h = absurd (cc)
ordered_meeting false resolution m reads h =
    let f = counted_facts m h in
    meeting_from_facts (record m { meeting = counted m.meeting; presences = []; polls = polls_on resolution m.polls; casts = [] }) (record {
      resolutions = f.resolutions;
      sessions = f.sessions;
      loaded = f.loaded;
      appointments = f.appointments;
      endings = f.endings;
      authorities = f.authorities;
      presences = refl;
      demands = f.demands;
      polls = polls_preserved (counted m.meeting) resolution m.polls f.polls;
      casts = refl;
    })

pub read_meeting : ReadMeetingsAreMeetings
read_meeting (LoadRegister new) m reads h =
    let f = meeting_facts m h in
    meeting_from_facts (lists_read (LoadRegister new) m) (record {
      resolutions = refl;
      sessions = f.sessions;
      loaded = f.loaded;
      appointments = refl;
      endings = refl;
      authorities = refl;
      presences = refl;
      demands = refl;
      polls = refl;
      casts = refl;
    })
read_meeting (Presence party) m reads h = absurd (cc)
read_meeting OpenMeeting m reads h =
    let f = counted_facts m h in
    meeting_from_facts (lists_read OpenMeeting m) (record {
      resolutions = f.resolutions;
      sessions = f.sessions;
      loaded = f.loaded;
      appointments = f.appointments;
      endings = f.endings;
      authorities = f.authorities;
      presences = f.presences;
      demands = refl;
      polls = refl;
      casts = refl;
    })
read_meeting (Adjourn appointed) m reads h = absurd (cc)
read_meeting (Order new) m reads h = ordered_meeting new.chair new.resolution m reads h
read_meeting (Start resolution) m reads h = absurd (cc)
read_meeting (Close resolution) m reads h = absurd (cc)
read_meeting (Declare resolution) m reads h =
    let f = meeting_facts m h in
    meeting_from_facts (lists_read (Declare resolution) m) (record {
      resolutions = f.resolutions;
      sessions = f.sessions;
      loaded = f.loaded;
      appointments = f.appointments;
      endings = f.endings;
      authorities = f.authorities;
      presences = refl;
      demands = refl;
      polls = polls_preserved m.meeting resolution m.polls f.polls;
      casts = casts_preserved resolution m.polls m.casts f.casts;
    })
