-- Each step keeps the lists of an office.
use Rattle.std.proofs.Common.{◌≡◌, ℕ, suc, Bool, true, false, ◌&&◌, ◌==◌, List, [], ◌∷◌, ◌++◌, length, refl, ap, sym, ◌∙◌, arith, length-append}
use Rattle.std.specs.Prelude.{Option, Some, None, filter, option_map, is_some, is_none, nat_le}
use Rattle.std.specs.Cmp.Derive.{both_true}
use Rattle.std.proofs.lemmas.Bool.Decides.{nat_tests}
use Rattle.std.proofs.lemmas.List.Folds.{list_all-append}
use Rattle.seq.proofs.Filtered.{none-found}
use Rattle.std.proofs.lemmas.Bool.{not-false}
use Rattle.seq.proofs.Differing.{differ_snoc, differ_changed, all_changed_found, length-change_first}
use Rattle.desk_words.specs.Finding.{meeting_named, poll_on}
use Rattle.desk_words.specs.Names.{same_name}
use Rattle.desk_words.specs.KeyRows.{same_keys}
use Rattle.desk_words.specs.SortedLists.{are_resolutions}
use Rattle.desk_words.specs.Office.{is_resolution, is_meeting, is_poll, same_meeting, is_office}
use Rattle.desk_words.specs.PollStates.{there_is, is_waiting, is_unclosed}
use Rattle.desk_words.specs.Refusals.{first_refusal}
use Rattle.desk_words.specs.SameRows.{same_rows}
use Rattle.desk_words.specs.Sessions.{is_opened, last_number, last_later, last_session, open_there}
use Rattle.desk_words.specs.Rulings.{Ruling, in_found, loaded, noted, map_ruling_change, ruled_answer}
use Rattle.desk_words.specs.declared.caller.Caller.{Caller}
use Rattle.desk_words.specs.declared.caller.Caller.TheVariants as caller
use Rattle.desk_words.specs.declared.caller.KeyRow.{KeyRow}
use Rattle.desk_words.specs.declared.change.Change.{Change}
use Rattle.desk_words.specs.declared.change.Change.TheVariants.{SetClosedDays, SetKeys, InMeeting}
use Rattle.desk_words.specs.declared.change.Entry.{Entry}
use Rattle.desk_words.specs.declared.change.Entry.TheVariants as entry
use Rattle.desk_words.specs.declared.change.MeetingChange.{MeetingChange}
use Rattle.desk_words.specs.declared.change.MeetingChange.TheVariants.{SetRegister, SetOpened, Enter}
use Rattle.desk_words.specs.declared.office.OfficeLists.{OfficeLists}
use Rattle.desk_words.specs.declared.records.CastKind.TheVariants.{AsInstructed}
use Rattle.desk_words.specs.declared.office.MeetingLists.{MeetingLists}
use Rattle.desk_words.specs.declared.records.Meeting.{Meeting}
use Rattle.desk_words.specs.declared.records.Poll.{Poll}
use Rattle.desk_words.specs.declared.records.PresenceMark.{PresenceMark}
use Rattle.desk_words.specs.declared.records.Session.{Session}
use Rattle.desk_words.specs.declared.request.DeskRequest.{DeskRequest}
use Rattle.desk_words.specs.declared.request.DeskRequest.TheVariants as desk
use Rattle.desk_words.specs.declared.request.NewMeeting.{NewMeeting}
use Rattle.desk_words.specs.declared.request.OfficeRequest.{OfficeRequest}
use Rattle.desk_words.specs.declared.request.OfficeRequest.TheVariants as office
use Rattle.desk_words.specs.declared.request.PartyRequest.{PartyRequest}
use Rattle.desk_words.specs.declared.request.PartyRequest.TheVariants as party
use Rattle.desk_words.specs.declared.request.Request.{Request}
use Rattle.desk_words.specs.declared.request.Request.TheVariants as asked
use Rattle.vocabulary.specs.declared.refusal.Refusal.TheVariants.{Exists, TooMany, NoRegister, NotOpened, PollOrdered, NoPoll, NoResolution, PollNotOpen, NotClosed, BadInstructions, NoSuchNumber, AlreadyEnded}
use Rattle.caller_view.specs.PartyRulings.{party_ruling, ruling_for}
use Rattle.caller_view.specs.AppointmentRulings.{appoint_cases, appointment_of, end_cases, ending_of}
use Rattle.caller_view.specs.AttendanceRulings.{authorise_cases, authority_of, demand_cases, demand_mark, gave_authority, is_present, own_demanded, presence_of}
use Rattle.caller_view.specs.CastRulings.{block_of, cast_cases, cast_of, instructed_cases}
use Rattle.party_views.specs.Views.{meeting_at, own_in, own_in_some, public_in}
use Rattle.proxy_rules.specs.Holdings.{is_ended_of}
use Rattle.office_decisions.specs.OfficeRulings.{desk_ruling, ruling_on}
use Rattle.office_decisions.specs.PresenceRulings.{is_marked}
use Rattle.office_decisions.specs.CallRulings.{call_cases, call_ruling, new_meeting_of}
use Rattle.office_decisions.specs.RequestLimits.{if_any, is_within_limits, keeps_limits}
use Rattle.office_decisions.specs.DeskRulings.{same_days}
use Rattle.office_decisions.specs.PollRulings.{open_cases, adjourn_cases, order_cases, poll_of, start_cases, close_cases, declare_cases, declaration_of}
use Rattle.desk_words.proofs.OfficeFacts.{OfficeFacts, office_facts, office_from_facts, meeting_from_facts, find-passes}
use Rattle.desk_words.specs.Changes.{applied_if_any, change_meeting, changed, entered, new_lists}
use Rattle.meeting_core.specs.Step.{ruling}
use Rattle.meeting_core.proofs.AppointmentsPreserved.{appointment_preserved, ending_preserved, given_by_party, numbered_given, unended_none}
use Rattle.meeting_core.proofs.AttendancePreserved.{authority_preserved, demand_preserved, not_demanded, not_given, not_marked, not_present, presence_preserved, room_left}
use Rattle.meeting_core.proofs.MeetingPreserved.{register_preserved, opening_preserved, adjournment_preserved, last_opened, last_there, poll_preserved, start_preserved, close_preserved, declare_preserved, vote_preserved}
use Rattle.meeting_core.proofs.RulingLemmas.{change_of, fails}

not_some : {X : Type 0} (o : Option X) → is_some o ≡ false → o ≡ None
not_some None h = refl
not_some (Some x) h = absurd (cc)

not_none : {X : Type 0} (o : Option X) → is_none o ≡ false → is_some o ≡ true
not_none None h = absurd (cc)
not_none (Some x) h = refl

-- a poll that is there, where none is not the case
some_poll : (poll : Option Poll) → is_none poll ≡ false → (p : Poll) × (poll ≡ Some p)
some_poll None h = absurd (cc)
some_poll (Some p) h = (p, refl)

-- where no poll passes a test, the one that is there fails it
there_fails : (test : Poll → Bool) (poll : Option Poll) (p : Poll) → poll ≡ Some p → there_is test poll ≡ false → test p ≡ false
there_fails test poll p e h = ap (there_is test) (sym e) ∙ h

-- ---- what is asked of the whole desk

-- a change within its limits leaves the lists of an office
abbrev pub Preserves : OfficeLists → Option Change → Type 0
Preserves o change = if_any keeps_limits change ≡ true → is_office (applied_if_any o change) ≡ true

-- a meeting without lists
new_meeting_preserved : (new : NewMeeting) → are_resolutions new.resolutions ≡ true → is_meeting (new_lists (new_meeting_of new)) ≡ true
new_meeting_preserved new h = meeting_from_facts (new_lists (new_meeting_of new)) (assumption h)

-- a meeting of a new name may be added
added_preserved : (o : OfficeLists) (m : MeetingLists) → OfficeFacts o → meeting_named o.meetings m.meeting.id ≡ None → nat_le 100 (length o.meetings) ≡ false → is_meeting m ≡ true
    → is_office (record o { meetings = o.meetings ++ m ∷ [] }) ≡ true
added_preserved o m f fresh room good =
    let short : nat_le (length (o.meetings ++ m ∷ [])) 100 ≡ true = grind (arith, nat_tests, length-append o.meetings (m ∷ [])) in
    office_from_facts (record o { meetings = o.meetings ++ m ∷ [] }) (record {
      keys = f.keys;
      closed = f.closed;
      few = short;
      apart = differ_snoc same_meeting o.meetings m f.apart (none-found (λ x. same_name x.meeting.id m.meeting.id) o.meetings fresh);
      each = list_all-append is_meeting o.meetings (m ∷ []) ∙ both_true f.each (ap (λ b. b && true) good);
    })

call_preserved : (o : OfficeLists) (new : NewMeeting) → is_office o ≡ true → Preserves o (ruled_answer (call_ruling o.meetings new)).change
call_preserved o new h = change_of (Preserves o) (call_ruling o.meetings new) (λ _. h) (λ none limits.
    let cases = call_cases o.meetings new in
    added_preserved o (new_lists (new_meeting_of new)) (office_facts o h) (not_some (meeting_named o.meetings new.meeting) (fails Exists cases none)) (fails TooMany cases none)
    (new_meeting_preserved new limits))

days_preserved : (o : OfficeLists) (same : Bool) (days : List ℕ) → is_office o ≡ true → Preserves o (loaded same (SetClosedDays days)).change
days_preserved o true days h = λ _. h
days_preserved o false days h = λ limits.
    let f = office_facts o h in
    office_from_facts (record o { closed = days }) (record { keys = f.keys; closed = limits; few = f.few; apart = f.apart; each = f.each })

keys_preserved : (o : OfficeLists) (same : Bool) (rows : List KeyRow) → is_office o ≡ true → Preserves o (loaded same (SetKeys rows)).change
keys_preserved o true rows h = λ _. h
keys_preserved o false rows h = λ limits.
    let f = office_facts o h in
    office_from_facts (record o { keys = rows }) (record { keys = limits; closed = f.closed; few = f.few; apart = f.apart; each = f.each })

desk_preserved : (o : OfficeLists) (what : DeskRequest) → is_office o ≡ true → Preserves o (ruled_answer (desk_ruling o.keys o.closed o.meetings what)).change
desk_preserved o (desk.CallMeeting new) h = call_preserved o new h
desk_preserved o (desk.ClosedDays days) h = days_preserved o (same_days o.closed days) days h
desk_preserved o (desk.Keys rows) h = keys_preserved o (same_keys o.keys rows) rows h

-- ---- what the office asks in a meeting

-- a change within its limits leaves the lists of a meeting
abbrev Stays : MeetingLists → Option MeetingChange → Type 0
Stays m None = Unit {0}
Stays m (Some change) = is_within_limits change ≡ true → is_meeting (changed change m) ≡ true

loaded_stays : (m : MeetingLists) (same : Bool) (change : MeetingChange) → Stays m (Some change) → Stays m (loaded same change).change
loaded_stays m true change h = tt
loaded_stays m false change h = h

noted_stays : (m : MeetingLists) (stands : Bool) (change : MeetingChange) → (stands ≡ false → Stays m (Some change)) → Stays m (noted stands change).change
noted_stays m true change h = tt
noted_stays m false change h = h refl

-- what is ruled on the office's requests in a meeting leaves the lists of a meeting
office_stays : (m : MeetingLists) (closed : List ℕ) (now : ℕ) (what : OfficeRequest) → is_meeting m ≡ true
    → first_refusal (ruling_on closed now what m).cases ≡ None → Stays m (ruling_on closed now what m).accepted.change
office_stays m closed now (office.LoadRegister new) good none =
    loaded_stays m (same_rows m.register new.rows) (SetRegister new.rows) (λ limits. register_preserved new.rows m limits good)
office_stays m closed now (office.Presence who) good none =
    let last = last_number m.meeting in
    let mark : PresenceMark = record { session = last; party = who; moment = now } in
    noted_stays m (is_marked m.meeting m.presences who) (Enter (entry.Presence mark)) (λ fresh limits.
    presence_preserved mark m good (last_there m.meeting) (not_marked last who m.presences fresh))
office_stays m closed now office.OpenMeeting good none = λ limits.
    opening_preserved now m good (not-false m.meeting.loaded (fails NoRegister (open_cases m closed now) none))
office_stays m closed now (office.Adjourn appointed) good none = λ limits.
    let cases = adjourn_cases m closed now appointed in
    adjournment_preserved appointed m good (fails TooMany cases none) (not-false (is_opened (last_session m.meeting)) (fails NotOpened cases none))
office_stays m closed now (office.Order new) good none = λ limits.
    let cases = order_cases m closed now new in
    let n = length m.meeting.resolutions in
    let number : is_resolution n new.resolution ≡ true = not-false (is_resolution n new.resolution) (fails NoResolution cases none) in
    let opened = last_opened m.meeting (not-false (is_opened (last_session m.meeting)) (fails NotOpened cases none)) in
    let fit : is_poll m.meeting (poll_of m.meeting now new) ≡ true = both_true (both_true (both_true (both_true opened number) refl) refl) refl in
    poll_preserved (poll_of m.meeting now new) m good fit (not_some (poll_on m.polls new.resolution) (fails PollOrdered cases none))
office_stays m closed now (office.Start resolution) good none = λ limits.
    let p = some_poll (poll_on m.polls resolution) (fails NoPoll (start_cases m now resolution) none) in
    start_preserved now resolution m p.0 good p.1
office_stays m closed now (office.Close resolution) good none = λ limits.
    let cases = close_cases m resolution in
    let poll = poll_on m.polls resolution in
    let p = some_poll poll (fails NoPoll cases none) in
    close_preserved now resolution m p.0 good p.1 (not_none p.0.started (there_fails is_waiting poll p.0 p.1 (fails PollNotOpen cases none)))
office_stays m closed now (office.Declare resolution) good none = λ limits.
    let cases = declare_cases m resolution in
    let poll = poll_on m.polls resolution in
    let p = some_poll poll (fails NoPoll cases none) in
    declare_preserved (declaration_of m closed now resolution).tally resolution m p.0 good p.1 (not_none p.0.closed (there_fails is_unclosed poll p.0 p.1 (fails NotClosed cases none))) limits

-- ---- what a party asks in a meeting

-- what is entered leaves the lists of a meeting
abbrev EntryStays : MeetingLists → Option Entry → Type 0
EntryStays m None = Unit {0}
EntryStays m (Some entry) = is_meeting (entered entry m) ≡ true

noted_entry : (m : MeetingLists) (stands : Bool) (entry : Entry) → (stands ≡ false → EntryStays m (Some entry)) → EntryStays m (noted stands entry).change
noted_entry m true entry h = tt
noted_entry m false entry h = h refl

-- what is ruled on a party's requests in a meeting leaves the lists of a meeting
party_stays : (m : MeetingLists) (closed who : List ℕ) (now : ℕ) (what : PartyRequest) → is_meeting m ≡ true
    → first_refusal (ruling_for (public_in (Some m) closed) (own_in m closed who now) now what m.meeting).cases ≡ None
    → EntryStays m (ruling_for (public_in (Some m) closed) (own_in m closed who now) now what m.meeting).accepted.change
party_stays m closed who now party.Notice good none = tt
party_stays m closed who now party.Mine good none = tt
party_stays m closed who now (party.Appoint new) good none =
    let own = own_in m closed who now in
    let cases = appoint_cases m.meeting own new in
    let count = given_by_party who m.appointments in
    appointment_preserved (appointment_of own now new) m good (ap suc count) (ap (nat_le 256) (sym count) ∙ fails TooMany cases none)
    (not-false (length new.instructions == length m.meeting.resolutions) (fails BadInstructions cases none))
party_stays m closed who now (party.End number) good none =
    let own = own_in m closed who now in
    let cases = end_cases own number in
    let given = fails NoSuchNumber cases none in
    ending_preserved (ending_of own now number) m good (numbered_given (filter (is_ended_of who) m.endings) who number m.appointments given)
    (unended_none m.endings who number m.appointments given (fails AlreadyEnded cases none))
party_stays m closed who now (party.Authorise person) good none =
    let own = own_in m closed who now in
    let gave = gave_authority own person in
    noted_entry m gave (entry.Authority (authority_of own now person)) (λ fresh.
    authority_preserved (authority_of own now person) m good (room_left who gave m.authorities fresh (fails TooMany (authorise_cases own person) none))
    (not_given who person m.authorities fresh))
party_stays m closed who now party.Attend good none =
    let own = own_in m closed who now in
    let mark = presence_of m.meeting own now in
    noted_entry m (is_present m.meeting own) (entry.Presence mark) (λ fresh.
    presence_preserved mark m good (last_there m.meeting) (not_present (last_number m.meeting) who m.presences fresh))
party_stays m closed who now (party.Demand resolution) good none =
    let own = own_in m closed who now in
    let cases = demand_cases (public_in (Some m) closed) m.meeting own resolution in
    let mark = demand_mark m.meeting own now resolution in
    noted_entry m (own_demanded m.meeting own resolution) (entry.Demand mark) (λ fresh.
    demand_preserved mark m good (both_true (last_there m.meeting) (not-false (is_resolution (length m.meeting.resolutions) resolution) (fails NoResolution cases none)))
    (not_demanded who (last_number m.meeting) resolution m.demands fresh))
party_stays m closed who now (party.Cast new) good none =
    let own = own_in m closed who now in
    let cases = cast_cases (public_in (Some m) closed) m.meeting own new in
    let poll = poll_on m.polls new.resolution in
    let p = some_poll poll (fails NoPoll cases none) in
    vote_preserved (cast_of own now new.resolution (block_of new)) m p.0 good p.1 (not_none p.0.started (there_fails is_waiting poll p.0 p.1 (fails PollNotOpen cases none))) (fails TooMany cases none)
party_stays m closed who now (party.Instructed resolution) good none =
    let own = own_in m closed who now in
    let cases = instructed_cases (public_in (Some m) closed) m.meeting own resolution in
    let poll = poll_on m.polls resolution in
    let p = some_poll poll (fails NoPoll cases none) in
    vote_preserved (cast_of own now resolution AsInstructed) m p.0 good p.1 (not_none p.0.started (there_fails is_waiting poll p.0 p.1 (fails PollNotOpen cases none))) (fails TooMany cases none)

-- ---- a meeting changed

-- a meeting that is found in an office is such a meeting
good_meeting : (o : OfficeLists) (id : List ℕ) (m : MeetingLists) → is_office o ≡ true → meeting_at o id ≡ Some m → is_meeting m ≡ true
good_meeting o id m h found = find-passes (λ x. same_name x.meeting.id id) is_meeting o.meetings m (office_facts o h).each found

-- a meeting may be changed to one of the same name that has the lists of a meeting
meeting_preserved : (o : OfficeLists) (id : List ℕ) (f : MeetingLists → MeetingLists) (m : MeetingLists) → ((x : MeetingLists) → (f x).meeting.id ≡ x.meeting.id)
    → is_office o ≡ true → meeting_at o id ≡ Some m → is_meeting (f m) ≡ true → is_office (change_meeting f id o) ≡ true
meeting_preserved o id f m same h found good =
    let facts = office_facts o h in
    let test = λ (x : MeetingLists). same_name x.meeting.id id in
    office_from_facts (change_meeting f id o) (record {
      keys = facts.keys;
      closed = facts.closed;
      few = ap (λ n. nat_le n 100) (length-change_first test f o.meetings) ∙ facts.few;
      apart = differ_changed same_meeting test f o.meetings (λ x y. ap (λ name. same_name name y.meeting.id) (same x)) (λ x y. ap (same_name x.meeting.id) (same y)) ∙ facts.apart;
      each = all_changed_found is_meeting test f o.meetings m facts.each found good;
    })

-- what is entered changes neither the meeting itself
pub entered_meeting : (entry : Entry) (m : MeetingLists) → (entered entry m).meeting ≡ m.meeting
entered_meeting (entry.Appointment appointment) m = refl
entered_meeting other m = refl

-- nor its polls
pub entered_polls : (entry : Entry) (m : MeetingLists) → (entered entry m).polls ≡ m.polls
entered_polls (entry.Appointment appointment) m = refl
entered_polls other m = refl

-- an opening gives a meeting no other name
opened_name : (moment : ℕ) (m : Meeting) (found : Option Session) → (open_there moment m found).id ≡ m.id
opened_name moment m None = refl
opened_name moment m (Some s) = refl

-- no change does
changed_name : (change : MeetingChange) (m : MeetingLists) → (changed change m).meeting.id ≡ m.meeting.id
changed_name (Enter entry) m = ap (λ (meeting : Meeting). meeting.id) (entered_meeting entry m)
changed_name (SetOpened moment) m = opened_name moment m.meeting (last_later m.meeting)
changed_name other m = refl

change_preserved : (o : OfficeLists) (id : List ℕ) (m : MeetingLists) (change : Option MeetingChange) → is_office o ≡ true → meeting_at o id ≡ Some m → Stays m change
    → Preserves o (option_map (InMeeting id) change)
change_preserved o id m None h found stays = λ _. h
change_preserved o id m (Some change) h found stays = λ limits. meeting_preserved o id (changed change) m (changed_name change) h found (stays limits)

entry_preserved : (o : OfficeLists) (id : List ℕ) (m : MeetingLists) (entry : Option Entry) → is_office o ≡ true → meeting_at o id ≡ Some m → EntryStays m entry
    → Preserves o (option_map (λ e. InMeeting id (Enter e)) entry)
entry_preserved o id m None h found stays = λ _. h
entry_preserved o id m (Some entry) h found stays = λ _. meeting_preserved o id (changed (Enter entry)) m (changed_name (Enter entry)) h found stays

office_preserved : (o : OfficeLists) (now : ℕ) (id : List ℕ) (what : OfficeRequest) → is_office o ≡ true
    → Preserves o (ruled_answer (map_ruling_change (InMeeting id) (in_found (meeting_at o id) (ruling_on o.closed now what)))).change
office_preserved o now id what h =
    (elim (meeting_at o id) as (λ found. meeting_at o id ≡ found → Preserves o (ruled_answer (map_ruling_change (InMeeting id) (in_found found (ruling_on o.closed now what)))).change) [
      | None ↦ λ e _. h
      | Some m ↦ λ found. change_of (Preserves o) (map_ruling_change (InMeeting id) (in_found (Some m) (ruling_on o.closed now what))) (λ _. h) (λ none.
          change_preserved o id m (ruling_on o.closed now what m).accepted.change h found (office_stays m o.closed now what (good_meeting o id m h found) none))
    ]) refl

-- what decides a party's request, where the meeting is found or not
abbrev pub party_found : Option MeetingLists → List ℕ → List ℕ → ℕ → List ℕ → PartyRequest → Ruling Change
party_found found closed who now id what =
    map_ruling_change (λ e. InMeeting id (Enter e)) (party_ruling (public_in found closed) (own_in_some found closed who now) now what)

party_preserved : (o : OfficeLists) (who : List ℕ) (now : ℕ) (id : List ℕ) (what : PartyRequest) → is_office o ≡ true
    → Preserves o (ruled_answer (party_found (meeting_at o id) o.closed who now id what)).change
party_preserved o who now id what h =
    (elim (meeting_at o id) as (λ found. meeting_at o id ≡ found → Preserves o (ruled_answer (party_found found o.closed who now id what)).change) [
      | None ↦ λ e _. h
      | Some m ↦ λ found. change_of (Preserves o) (party_found (Some m) o.closed who now id what) (λ _. h) (λ none.
          entry_preserved o id m (ruling_for (public_in (Some m) o.closed) (own_in m o.closed who now) now what m.meeting).accepted.change h found
          (party_stays m o.closed who now what (good_meeting o id m h found) none))
    ]) refl

-- each step keeps the lists of an office
pub step_preserved : (o : OfficeLists) (now : ℕ) (who : Caller) (request : Request) → is_office o ≡ true → Preserves o (ruled_answer (ruling o now who request)).change
step_preserved o now caller.Office (asked.Desk what) h = desk_preserved o what h
step_preserved o now caller.Office (asked.Office id what) h = office_preserved o now id what h
step_preserved o now caller.Office (asked.Party id what) h = λ _. h
step_preserved o now (caller.Party who) (asked.Party id what) h = party_preserved o who now id what h
step_preserved o now (caller.Party who) request h = λ _. h
