-- What parties are answered from an office without secret votes.
use Rattle.std.proofs.Common.{true≢false, ◌≡◌, ℕ, Bool, true, false, ◌&&◌, not, cond, List, [], ◌∷◌, map, filter, length, refl, ap, sym, ◌∙◌, arith}
use Rattle.std.proofs.lemmas.List.Sums.{length-filter}
use Rattle.std.specs.Prelude.{Option, Some, None, option_map, is_none, is_some, ◌==◌}
use Rattle.std.specs.Cmp.{first_so, second_so}
use Rattle.std.proofs.lemmas.Bool.{eq-eqb}
use Rattle.std.proofs.lemmas.Bool.Decides.{nat_tests}
use Rattle.vocabulary.specs.Names.{same_name}
use Rattle.vocabulary.specs.declared.refusal.Refusal.TheVariants.{AgainstInstruction, BadRange, NoMeeting, NoPoll, NoRegister, NoRight, NotOpened, NotPresent, NotYours, PollClosed, PollNotOpen, PollOrdered, TooMany}
use Rattle.vocabulary.specs.Places.{is_range}
use Rattle.desk_words.proofs.WordRowLemmas.{same_name-true}
use Rattle.desk_words.specs.Office.{implies}
use Rattle.desk_words.specs.PollStates.{is_closed, is_waiting, there_is}
use Rattle.desk_words.specs.Rulings.{Ruling, asked_first, no_resolution, noted, ruled_answer, map_change}
use Rattle.desk_words.specs.Sessions.{is_opened, last_number, last_session}
use Rattle.desk_words.specs.declared.answer.Answer.{Answer}
use Rattle.desk_words.specs.declared.caller.Caller.TheVariants as caller
use Rattle.desk_words.specs.declared.change.Change.{Change}
use Rattle.desk_words.specs.declared.change.Change.TheVariants.{InMeeting}
use Rattle.desk_words.specs.declared.change.Entry.{Entry}
use Rattle.desk_words.specs.declared.change.Entry.TheVariants as entry
use Rattle.desk_words.specs.declared.change.MeetingChange.TheVariants.{Enter}
use Rattle.desk_words.specs.declared.office.MeetingLists.{MeetingLists}
use Rattle.desk_words.specs.declared.office.OfficeLists.{OfficeLists}
use Rattle.desk_words.specs.declared.records.Appointment.{Appointment}
use Rattle.desk_words.specs.declared.records.CastKind.TheVariants.{AsInstructed}
use Rattle.desk_words.specs.declared.records.CastMark.{CastMark}
use Rattle.desk_words.specs.declared.records.Meeting.{Meeting}
use Rattle.desk_words.specs.declared.records.Poll.{Poll}
use Rattle.desk_words.specs.declared.reply.Reply.TheVariants as reply
use Rattle.desk_words.specs.declared.request.Call.{Call}
use Rattle.desk_words.specs.declared.request.PartyRequest.{PartyRequest}
use Rattle.desk_words.specs.declared.request.PartyRequest.TheVariants.{Notice, Demand, Cast, Instructed}
use Rattle.desk_words.specs.declared.request.Request.{Request}
use Rattle.desk_words.specs.declared.request.Request.TheVariants as asked
use Rattle.proxy_rules.specs.Cutoffs.{is_late_poll}
use Rattle.proxy_rules.specs.Parties.{is_cast_by}
use Rattle.proxy_rules.specs.Uses.{vote_on}
use Rattle.party_views.proofs.OwnLemmas.{filter-swap}
use Rattle.caller_view.specs.PartyRulings.{ruling_for}
use Rattle.caller_view.specs.AttendanceRulings.{demand_mark, is_present, own_demanded, may_demand}
use Rattle.caller_view.specs.CastRulings.{block_of, cast_of, has_cast_enough}
use Rattle.party_views.specs.OwnViews.{known_to_proxy, own_from, poll_governed, session_governed}
use Rattle.party_views.specs.OwnCasts.{cast_count}
use Rattle.party_views.specs.declared.own_rows.OwnCasts.TheVariants.{All, Counted}
use Rattle.party_views.specs.RowsRead.{own_read}
use Rattle.caller_view.specs.Rights.{governed_for, is_against, is_not_own, is_uninstructed, may_vote_for}
use Rattle.party_views.specs.PartyRows.{own_rows_in, own_rows}
use Rattle.party_views.specs.SessionLists.{each_session}
use Rattle.party_views.specs.Views.{meeting_at, own_of, public_in, public_of}
use Rattle.party_views.specs.declared.own_rows.MemberRows.{MemberRows}
use Rattle.party_views.specs.declared.own_rows.OwnRows.{OwnRows}
use Rattle.party_views.specs.declared.views.OwnView.{OwnView}
use Rattle.meeting_core.specs.Step.{decided}
use Rattle.laws_step.specs.PartyReads.{ReadsEnough, answered}
use Rattle.laws_run.specs.SecretCalls.{Secret, office_without, hidden_in, is_declared_in, is_secret_cast, is_vote_request, is_vote_in, uncounted, without_count}
use Rattle.laws_run.proofs.HiddenChanges.{hidden_some}
use Rattle.laws_run.proofs.HiddenOffices.{hidden-found, hidden-public, poll-seen, turned}
use Rattle.laws_run.proofs.RunsListLemmas.{all-of, filter-among, implied}
use Rattle.laws_run.proofs.PartyLemmas.{answer_to, by-party, entry-of, own-party, the_entry}

-- ---- own things, and what is asked, without the count

map-filtered : {Y : Type 0} (f : Poll → Y) (test : Poll → Bool) (seen : Poll → Poll) (polls : List Poll) → ((p : Poll) → test (seen p) ≡ test p) → ((p : Poll) → f (seen p) ≡ f p)
    → map f (filter test (map seen polls)) ≡ map f (filter test polls)
map-filtered f test seen [] tested made = refl
map-filtered f test seen (p ∷ ps) tested made =
    let rest = map-filtered f test seen ps tested made in
    ap (λ b. map f (cond b (seen p ∷ filter test (map seen ps)) (filter test (map seen ps)))) (tested p)
    ∙ (elim (test p) as (λ b. map f (cond b (seen p ∷ filter test (map seen ps)) (filter test (map seen ps))) ≡ map f (cond b (p ∷ filter test ps) (filter test ps))) [
      | true ↦ λ i. made p i ∷ rest i
      | false ↦ rest
    ])

late-uncounted : (resolution : ℕ) (members : List MemberRows) (closed : List ℕ) (meeting : Meeting) (now : ℕ) (member : List ℕ) (number : ℕ) (polls : List Poll)
    → map (poll_governed members closed meeting now member number) (filter (is_late_poll closed) (map (uncounted resolution) polls))
    ≡ map (poll_governed members closed meeting now member number) (filter (is_late_poll closed) polls)
late-uncounted resolution members closed meeting now member number polls =
    let governs = poll_governed members closed meeting now member number in
    map-filtered governs (is_late_poll closed) (uncounted resolution) polls
    (λ p. elim (p.resolution == resolution) as (λ b. is_late_poll closed (cond b (without_count p) p) ≡ is_late_poll closed p) [ true ↦ refl | false ↦ refl ])
    (λ p. elim (p.resolution == resolution) as (λ b. governs (cond b (without_count p) p) ≡ governs p) [ true ↦ refl | false ↦ refl ])

-- a meeting without what was counted on a resolution
abbrev uncounted_in : ℕ → MeetingLists → MeetingLists
uncounted_in resolution m = record m { polls = map (uncounted resolution) m.polls }

own-uncounted : (resolution : ℕ) (m : MeetingLists) (closed : List ℕ) (rows : OwnRows) (now : ℕ)
    → own_from rows (public_in (Some (uncounted_in resolution m)) closed) now ≡ own_from rows (public_in (Some m) closed) now
own-uncounted resolution m closed rows now =
    λ i. record (own_from rows (public_in (Some m) closed) now) {
      received = map (λ (a : Appointment).
          known_to_proxy a (each_session (session_governed rows.members closed m.meeting now a.member a.number) m.meeting) (late-uncounted resolution rows.members closed m.meeting now a.member a.number m.polls i))
          rows.received;
    }

abbrev is_notice : PartyRequest → Bool
is_notice Notice = true
is_notice other = false

ruling-uncounted : (resolution : ℕ) (m : MeetingLists) (closed : List ℕ) (own : OwnView) (now : ℕ) (what : PartyRequest) → is_notice what ≡ false
    → ruling_for (public_in (Some (uncounted_in resolution m)) closed) own now what m.meeting ≡ ruling_for (public_in (Some m) closed) own now what m.meeting
ruling-uncounted resolution m closed own now Notice h = absurd (true≢false h)
ruling-uncounted resolution m closed own now (Demand number) h =
    poll-seen (λ found. record {
      cases = no_resolution m.meeting number
          ∷ record { refusal = NoRegister; holds = not m.meeting.loaded }
          ∷ record { refusal = NotOpened; holds = not (is_opened (last_session m.meeting)) }
          ∷ record { refusal = NotPresent; holds = not (is_present m.meeting own) }
          ∷ record { refusal = NoRight; holds = not (may_demand m.meeting own) }
          ∷ record { refusal = PollOrdered; holds = is_some found } ∷ [];
      accepted = noted (own_demanded m.meeting own number) (entry.Demand (demand_mark m.meeting own now number));
    }) resolution number m.polls (λ p a b. refl)
ruling-uncounted resolution m closed own now (Cast new) h =
    poll-seen (λ found. record {
      cases = no_resolution m.meeting new.resolution
          ∷ record { refusal = BadRange; holds = not (is_range new.from new.to) }
          ∷ record { refusal = TooMany; holds = has_cast_enough own new.resolution }
          ∷ record { refusal = NoRegister; holds = not m.meeting.loaded }
          ∷ record { refusal = NoRight; holds = not (may_vote_for own new.member new.capacity) }
          ∷ record { refusal = NoPoll; holds = is_none found }
          ∷ record { refusal = PollNotOpen; holds = there_is is_waiting found }
          ∷ record { refusal = PollClosed; holds = there_is is_closed found }
          ∷ record { refusal = NotYours; holds = is_not_own own (governed_for closed (vote_on (last_number m.meeting) found)) new new.capacity }
          ∷ record { refusal = AgainstInstruction; holds = is_against own (governed_for closed (vote_on (last_number m.meeting) found)) new new.capacity } ∷ [];
      accepted = record { reply = reply.Recorded; change = Some (entry.Cast (cast_of own now new.resolution (block_of new))) };
    }) resolution new.resolution m.polls (λ p a b. refl)
ruling-uncounted resolution m closed own now (Instructed number) h =
    poll-seen (λ found. record {
      cases = no_resolution m.meeting number
          ∷ record { refusal = TooMany; holds = has_cast_enough own number }
          ∷ record { refusal = NoRegister; holds = not m.meeting.loaded }
          ∷ record { refusal = NoPoll; holds = is_none found }
          ∷ record { refusal = PollNotOpen; holds = there_is is_waiting found }
          ∷ record { refusal = PollClosed; holds = there_is is_closed found }
          ∷ record { refusal = NotYours; holds = is_uninstructed own (governed_for closed (vote_on (last_number m.meeting) found)) number } ∷ [];
      accepted = record { reply = reply.Recorded; change = Some (entry.Cast (cast_of own now number AsInstructed)) };
    }) resolution number m.polls (λ p a b. refl)
ruling-uncounted resolution m closed own now what h = refl

-- what is entered by a ruling in a meeting that is found
abbrev entered_by : Ruling Entry → Option Entry
entered_by ruling = (ruled_answer (asked_first (record { refusal = NoMeeting; holds = false }) ruling)).change

-- what is entered is the same without the count
entered-uncounted : (resolution : ℕ) (m : MeetingLists) (closed : List ℕ) (own : OwnView) (now : ℕ) (what : PartyRequest)
    → (answered (public_in (Some (uncounted_in resolution m)) closed) own now what).change ≡ (answered (public_in (Some m) closed) own now what).change
entered-uncounted resolution m closed own now (Demand number) = ap entered_by (ruling-uncounted resolution m closed own now (Demand number) refl)
entered-uncounted resolution m closed own now (Cast new) = ap entered_by (ruling-uncounted resolution m closed own now (Cast new) refl)
entered-uncounted resolution m closed own now (Instructed number) = ap entered_by (ruling-uncounted resolution m closed own now (Instructed number) refl)
entered-uncounted resolution m closed own now what = refl

-- ---- own votes

-- the votes of a party that is none of the voters are not secret
others-casts : (secret : Secret) (party : List ℕ) (casts : List CastMark) → secret.voters party ≡ false
    → filter (is_cast_by party) (filter (λ (c : CastMark). not (is_secret_cast secret c)) casts) ≡ filter (is_cast_by party) casts
others-casts secret party casts other =
    let open_casts = λ (c : CastMark). not (is_secret_cast secret c) in
    filter-among (is_cast_by party) open_casts casts (all-of (λ c. implies (is_cast_by party c) (open_casts c)) casts (λ c. implied (is_cast_by party c) (open_casts c) (is_open c)))
  where
    neither : (a b : Bool) → b ≡ false → not (a && b) ≡ true
    neither true b h = ap not h
    neither false b h = refl

    is_open : (c : CastMark) → same_name c.voter party ≡ true → not (is_secret_cast secret c) ≡ true
    is_open c is = neither (c.resolution == secret.resolution) (secret.voters c.voter) (ap secret.voters (same_name-true c.voter party is) ∙ other)

-- and those on another resolution are not
casts-alike : (secret : Secret) (party : List ℕ) (number : ℕ) (casts : List CastMark) → (number == secret.resolution) ≡ false
    → cast_count (filter (is_cast_by party) (filter (λ (c : CastMark). not (is_secret_cast secret c)) casts)) number ≡ cast_count (filter (is_cast_by party) casts) number
casts-alike secret party number casts other =
    let on = λ (c : CastMark). c.resolution == number in
    let open_casts = λ (c : CastMark). not (is_secret_cast secret c) in
    let same = filter-swap on (is_cast_by party) (filter open_casts casts)
    ∙ ap (filter (is_cast_by party)) (filter-among on open_casts casts (all-of (λ c. implies (on c) (open_casts c)) casts (λ c. implied (on c) (open_casts c) (λ is.
    fails (c.resolution == secret.resolution) (secret.voters c.voter) (apart c.resolution number secret.resolution is other)))))
    ∙ sym (filter-swap on (is_cast_by party) casts) in
    sym (length-filter on (filter (is_cast_by party) (filter open_casts casts))) ∙ ap length same ∙ length-filter on (filter (is_cast_by party) casts)
  where
    apart : (a b c : ℕ) → (a == b) ≡ true → (b == c) ≡ false → (a == c) ≡ false
    apart a b c is other = grind (arith, nat_tests, is, other)

    fails : (a b : Bool) → a ≡ false → not (a && b) ≡ true
    fails false b h = refl
    fails true b h = absurd (true≢false h)

-- ---- what a party's call enters

-- the answer to a party in a meeting that is found
abbrev answer_found : Option MeetingLists → List ℕ → List ℕ → ℕ → PartyRequest → Answer Entry
answer_found found closed party now what = answered (public_in found closed) (own_from (own_rows_in found party) (public_in found closed) now) now what

-- own things of a party with these votes in place of its own
abbrev own_with : MeetingLists → List ℕ → List ℕ → ℕ → List CastMark → OwnView
own_with m closed party now casts = own_from (record (own_rows m party) { casts = All casts }) (public_in (Some m) closed) now

-- what a request enters is the same where the votes are alike that it reads
entered-with : ReadsEnough own_read → (m : MeetingLists) (closed party : List ℕ) (now : ℕ) (casts : List CastMark) (what : PartyRequest)
    → ((number : ℕ) → is_vote_request number what ≡ true → cast_count casts number ≡ cast_count (filter (is_cast_by party) m.casts) number)
    → (answered (public_in (Some m) closed) (own_with m closed party now casts) now what).change ≡ (answered (public_in (Some m) closed) (own_from (own_rows m party) (public_in (Some m) closed) now) now what).change
entered-with enough m closed party now casts (Cast new) h =
    let public = public_in (Some m) closed in
    let own = own_from (own_rows m party) public now in
    let same = h new.resolution (eq-eqb new.resolution new.resolution refl) in
    ap (λ (a : Answer Entry). a.change)
    (sym (enough public (own_with m closed party now casts) now (Cast new)) ∙ (λ i. answered public (record (own_read (Cast new) own) { casts = Counted new.resolution (same i) }) now (Cast new)) ∙ enough public own now (Cast new))
entered-with enough m closed party now casts (Instructed number) h =
    let public = public_in (Some m) closed in
    let own = own_from (own_rows m party) public now in
    let same = h number (eq-eqb number number refl) in
    ap (λ (a : Answer Entry). a.change)
    (sym (enough public (own_with m closed party now casts) now (Instructed number)) ∙ (λ i. answered public (record (own_read (Instructed number) own) { casts = Counted number (same i) }) now (Instructed number))
    ∙ enough public own now (Instructed number))
entered-with enough m closed party now casts what h = refl

-- a vote on one of two numbers is none on the other
vote-apart : (number resolution : ℕ) (what : PartyRequest) → is_vote_request number what ≡ true → is_vote_request resolution what ≡ false → (number == resolution) ≡ false
vote-apart number resolution (Cast new) on off = differ new.resolution number resolution on off
  where
    differ : (a b c : ℕ) → (a == b) ≡ true → (a == c) ≡ false → (b == c) ≡ false
    differ a b c is other = grind (arith, nat_tests, is, other)
vote-apart number resolution (Instructed asked) on off = differ asked number resolution on off
  where
    differ : (a b c : ℕ) → (a == b) ≡ true → (a == c) ≡ false → (b == c) ≡ false
    differ a b c is other = grind (arith, nat_tests, is, other)
vote-apart number resolution other on off = absurd (true≢false (sym on))

-- a call that is none of the secret votes enters the same without them
entered-alike : ReadsEnough own_read → (secret : Secret) (m : MeetingLists) (closed party : List ℕ) (now : ℕ) (what : PartyRequest) → (secret.voters party && is_vote_request secret.resolution what) ≡ false
    → (answer_found (Some (hidden_in secret m)) closed party now what).change ≡ (answer_found (Some m) closed party now what).change
entered-alike enough secret m closed party now what none =
    let casts = filter (is_cast_by party) (filter (λ (c : CastMark). not (is_secret_cast secret c)) m.casts) in
    let rows = record (own_rows m party) { casts = All casts } in
    ap (λ own. (answered (public_in (Some (uncounted_in secret.resolution m)) closed) own now what).change) (own-uncounted secret.resolution m closed rows now)
    ∙ entered-uncounted secret.resolution m closed (own_with m closed party now casts) now what
    ∙ entered-with enough m closed party now casts what (λ number on.
    (elim (secret.voters party) as (λ b. secret.voters party ≡ b → (b && is_vote_request secret.resolution what) ≡ false → cast_count casts number ≡ cast_count (filter (is_cast_by party) m.casts) number) [
      | true ↦ λ _ off. casts-alike secret party number m.casts (vote-apart number secret.resolution what on off)
      | false ↦ λ other _. ap (λ own. cast_count own number) (others-casts secret party m.casts other)
    ]) refl none)

entered-same : ReadsEnough own_read → (secret : Secret) (o : OfficeLists) (party : List ℕ) (now : ℕ) (at : List ℕ) (what : PartyRequest)
    → (secret.voters party && (same_name at secret.meeting && is_vote_request secret.resolution what)) ≡ false
    → (answer_to (office_without secret o) party now at what).change ≡ (answer_to o party now at what).change
entered-same enough secret o party now at what none =
    ap (λ found. (answer_found found o.closed party now what).change) (hidden-found secret o at)
    ∙ (elim (same_name secret.meeting at) as (λ b. same_name secret.meeting at ≡ b
    → (answer_found (cond b (option_map (hidden_in secret) (meeting_at o at)) (meeting_at o at)) o.closed party now what).change ≡ (answer_found (meeting_at o at) o.closed party now what).change) [
      | true ↦ λ is. (elim (meeting_at o at) as (λ found. (answer_found (option_map (hidden_in secret) found) o.closed party now what).change ≡ (answer_found found o.closed party now what).change) [
        | None ↦ refl
        | Some m ↦ entered-alike enough secret m o.closed party now what (ap (λ b. secret.voters party && (b && is_vote_request secret.resolution what)) (sym (turned at secret.meeting is)) ∙ none)
      ])
      | false ↦ λ other. refl
    ]) refl

-- ---- the secret votes

-- what is entered by one of them is secret
secret-entry : (secret : Secret) (at : List ℕ) (own : OwnView) (now : ℕ) (what : PartyRequest)
    → secret.voters own.party ≡ true → same_name at secret.meeting ≡ true → is_vote_request secret.resolution what ≡ true
    → (meeting : Meeting) → hidden_some secret (option_map (λ e. InMeeting at (Enter e)) (the_entry meeting own now what)) ≡ None
secret-entry secret at own now (Cast new) voter is on meeting =
    (λ i. cond (is i) (option_map (InMeeting at) (cond (on i && voter i) None (Some (Enter (entry.Cast (cast_of own now new.resolution (block_of new))))))) (Some (InMeeting at (Enter (entry.Cast (cast_of own now new.resolution (block_of new)))))))
secret-entry secret at own now (Instructed number) voter is on meeting =
    (λ i. cond (is i) (option_map (InMeeting at) (cond (on i && voter i) None (Some (Enter (entry.Cast (cast_of own now number AsInstructed)))))) (Some (InMeeting at (Enter (entry.Cast (cast_of own now number AsInstructed))))))
secret-entry secret at own now other voter is on meeting = absurd (true≢false (sym on))

-- a call of a party
abbrev pub party_call : ℕ → List ℕ → Request → Call
party_call now party request = record { moment = now; caller = caller.Party party; request = request }

pub vote-hidden : (secret : Secret) (o : OfficeLists) (now : ℕ) (party : List ℕ) (request : Request) → secret.voters party ≡ true → is_vote_in secret.meeting secret.resolution request ≡ true
    → hidden_some secret (decided o (party_call now party request)).change ≡ None
vote-hidden secret o now party (asked.Party at what) voter vote =
    ap (λ (a : Answer Change). hidden_some secret a.change) (by-party o party now at what)
    ∙ entry-of (λ e. hidden_some secret (option_map (λ e. InMeeting at (Enter e)) e) ≡ None) (public_of o at) (own_of o party at now) now what refl
    (secret-entry secret at (own_of o party at now) now what (ap secret.voters (own-party o party at now) ∙ voter)
    (first_so (same_name at secret.meeting) (is_vote_request secret.resolution what) vote) (second_so (same_name at secret.meeting) (is_vote_request secret.resolution what) vote))
vote-hidden secret o now party other voter vote = absurd (true≢false (sym vote))

-- so what is not secret of a party's change is the same without the secret votes
pub party-change : ReadsEnough own_read → (secret : Secret) (o : OfficeLists) (now : ℕ) (party : List ℕ) (request : Request)
    → hidden_some secret (decided (office_without secret o) (party_call now party request)).change ≡ hidden_some secret (decided o (party_call now party request)).change
party-change enough secret o now party request =
    (elim (secret.voters party && is_vote_in secret.meeting secret.resolution request) as (λ b. (secret.voters party && is_vote_in secret.meeting secret.resolution request) ≡ b
    → hidden_some secret (decided (office_without secret o) (party_call now party request)).change ≡ hidden_some secret (decided o (party_call now party request)).change) [
      | true ↦ λ both. (
          let voter = first_so (secret.voters party) (is_vote_in secret.meeting secret.resolution request) both in
          let vote = second_so (secret.voters party) (is_vote_in secret.meeting secret.resolution request) both in
          vote-hidden secret (office_without secret o) now party request voter vote ∙ sym (vote-hidden secret o now party request voter vote))
      | false ↦ λ none. open_call request none
    ]) refl
  where
    open_call : (what : Request) → (secret.voters party && is_vote_in secret.meeting secret.resolution what) ≡ false
        → hidden_some secret (decided (office_without secret o) (party_call now party what)).change ≡ hidden_some secret (decided o (party_call now party what)).change
    open_call (asked.Party at what) none =
        ap (λ (a : Answer Change). hidden_some secret a.change) (by-party (office_without secret o) party now at what)
        ∙ ap (λ e. hidden_some secret (option_map (λ e. InMeeting at (Enter e)) e)) (entered-same enough secret o party now at what none)
        ∙ sym (ap (λ (a : Answer Change). hidden_some secret a.change) (by-party o party now at what))
    open_call other none = refl

-- ---- what a party is told

rows-preserved : (secret : Secret) (o : OfficeLists) (party at : List ℕ) → secret.voters party ≡ false → own_rows_in (meeting_at (office_without secret o) at) party ≡ own_rows_in (meeting_at o at) party
rows-preserved secret o party at other =
    ap (λ found. own_rows_in found party) (hidden-found secret o at)
    ∙ elim (same_name secret.meeting at) as (λ b. own_rows_in (cond b (option_map (hidden_in secret) (meeting_at o at)) (meeting_at o at)) party ≡ own_rows_in (meeting_at o at) party) [
      | true ↦ elim (meeting_at o at) as (λ found. own_rows_in (option_map (hidden_in secret) found) party ≡ own_rows_in found party) [
        | None ↦ refl
        | Some m ↦ ap (λ casts. record (own_rows m party) { casts = All casts }) (others-casts secret party m.casts other)
      ]
      | false ↦ refl
    ]

-- a party that is none of the voters is answered the same without the secret votes, before the declaration
pub party-alike : (secret : Secret) (o : OfficeLists) (now : ℕ) (party : List ℕ) (request : Request) → secret.voters party ≡ false → is_declared_in secret o ≡ false
    → decided (office_without secret o) (party_call now party request) ≡ decided o (party_call now party request)
party-alike secret o now party (asked.Party at what) other none =
    let public = hidden-public secret o at none in
    let rows = rows-preserved secret o party at other in
    by-party (office_without secret o) party now at what
    ∙ (λ i. map_change (λ e. InMeeting at (Enter e)) (answered (public i) (own_from (rows i) (public i) now) now what))
    ∙ sym (by-party o party now at what)
party-alike secret o now party request other none = refl
