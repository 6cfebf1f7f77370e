-- What is found in an office without secret votes, and what the office is answered from it.
use Rattle.std.proofs.Common.{true≢false, ◌≡◌, ℕ, Bool, true, false, ◌&&◌, ◌||◌, ◌-◌, not, cond, List, [], ◌∷◌, map, filter, length, refl, ap, sym, ◌∙◌, subst}
use Rattle.std.specs.Prelude.{Option, Some, None, option_map, is_some, is_none, nat_le, nat_lt, ◌==◌}
use Rattle.std.specs.Cmp.{first_so, second_so}
use Rattle.std.specs.List.{list_any, slice_get}
use Rattle.seq.proofs.Differing.{length-change_first}
use Rattle.vocabulary.specs.Names.{same_name}
use Rattle.vocabulary.specs.Refusals.{first_refusal}
use Rattle.vocabulary.specs.declared.refusal.Refusal.{Refusal}
use Rattle.vocabulary.specs.declared.refusal.Refusal.TheVariants.{DemandTooSmall, Early, Exists, NoMeeting, NoPoll, NotOpened, PollClosed, PollNotOpen, PollOrdered, PollRunning, ShortNotice, TooMany}
use Rattle.desk_words.proofs.WordRowLemmas.{same_name-true, same_name-refl}
use Rattle.desk_words.specs.Finding.{meeting_named, poll_on}
use Rattle.desk_words.specs.Office.{implies}
use Rattle.desk_words.specs.PollStates.{is_closed, is_started, is_taken_after, is_waiting, there_is}
use Rattle.desk_words.specs.Rulings.{asked_first, in_found, no_resolution, map_ruling_change, ruled_answer, refused_or}
use Rattle.desk_words.specs.Sessions.{is_opened, last_number, last_session}
use Rattle.desk_words.specs.declared.answer.Answer.{Answer}
use Rattle.desk_words.specs.declared.caller.Caller.TheVariants as caller
use Rattle.desk_words.specs.declared.change.Change.{Change}
use Rattle.desk_words.specs.declared.change.Change.TheVariants.{InMeeting}
use Rattle.desk_words.specs.declared.change.MeetingChange.TheVariants.{AddPoll, SetPoll}
use Rattle.desk_words.specs.declared.change.PollChange.TheVariants as poll
use Rattle.desk_words.specs.declared.limits.TheConstants.{MOST_MEETINGS, MOST_SESSIONS}
use Rattle.desk_words.specs.declared.office.MeetingLists.{MeetingLists}
use Rattle.desk_words.specs.declared.office.OfficeLists.{OfficeLists}
use Rattle.desk_words.specs.declared.records.CastMark.{CastMark}
use Rattle.desk_words.specs.declared.records.Poll.{Poll}
use Rattle.desk_words.specs.declared.records.Tally.{Tally}
use Rattle.desk_words.specs.declared.reply.Declaration.{Declaration}
use Rattle.desk_words.specs.declared.reply.Reply.TheVariants as reply
use Rattle.desk_words.specs.declared.request.Call.{Call}
use Rattle.desk_words.specs.declared.request.DeskRequest.{DeskRequest}
use Rattle.desk_words.specs.declared.request.DeskRequest.TheVariants as desk
use Rattle.desk_words.specs.declared.request.OfficeRequest.{OfficeRequest}
use Rattle.desk_words.specs.declared.request.OfficeRequest.TheVariants.{LoadRegister, Presence, OpenMeeting, Adjourn, Order, Start, Close, Declare}
use Rattle.desk_words.specs.declared.request.Request.{Request}
use Rattle.desk_words.specs.declared.request.Request.TheVariants as asked
use Rattle.office_days.specs.Notice.{is_enough_notice}
use Rattle.proxy_rules.specs.Cutoffs.{cutoffs_of}
use Rattle.proxy_rules.specs.Uses.{vote_on}
use Rattle.vote_rules.specs.Tallies.{tally_of}
use Rattle.party_views.specs.Views.{meeting_at, polls_in, public_in, public_of}
use Rattle.office_decisions.specs.OfficeRulings.{desk_ruling, office_ruling, ruling_on}
use Rattle.office_decisions.specs.PresenceRulings.{demand_noted}
use Rattle.office_decisions.specs.CallRulings.{call_ruling, day_of_moment}
use Rattle.office_decisions.specs.PollRulings.{adjourn_ruling, declare_cases, declaration_of, is_running, poll_of, result_cases, result_on}
use Rattle.meeting_core.specs.Step.{decided}
use Rattle.laws_step.specs.Secrecy.{TheOfficeLearnsNoVotes, casts_off, declares}
use Rattle.laws_run.specs.SecretCalls.{Secret, but_result, office_without, hidden_in, is_declared_in, is_declared_on, is_secret_cast, no_tally, uncounted, without_count}
use Rattle.laws_run.proofs.RunsFoundLemmas.{found-changed, view-changed}
use Rattle.laws_run.proofs.HiddenChanges.{hidden_some}
use Rattle.laws_run.proofs.RunsListLemmas.{all-of, filter-among, implied}

-- ---- what is found

pub hidden-found : (secret : Secret) (o : OfficeLists) (at : List ℕ)
    → meeting_at (office_without secret o) at ≡ cond (same_name secret.meeting at) (option_map (hidden_in secret) (meeting_at o at)) (meeting_at o at)
hidden-found secret o at = found-changed (hidden_in secret) secret.meeting at o.meetings (λ m. refl)

-- names that are the same are so the other way round
pub turned : (at id : List ℕ) → same_name id at ≡ true → same_name at id ≡ true
turned at id is = ap (λ name. same_name name id) (sym (same_name-true id at is)) ∙ same_name-refl id

-- whether a poll is on the resolution and declared is seen without its count
declared-uncounted : (resolution : ℕ) (p : Poll) → is_declared_on resolution (uncounted resolution p) ≡ is_declared_on resolution p
declared-uncounted resolution p =
    (elim (p.resolution == resolution) as (λ b. (p.resolution == resolution) ≡ b
    → ((cond b (without_count p) p).resolution == resolution && is_some (cond b (without_count p) p).declared) ≡ (p.resolution == resolution && is_some p.declared)) [
      | true ↦ λ on. ap (λ b. p.resolution == resolution && b)
          (elim (p.declared) as (λ d. is_some (option_map (λ (tally : Tally). no_tally) d) ≡ is_some d) [ None ↦ refl | Some tally ↦ refl ])
      | false ↦ λ off. refl
    ]) refl

any-declared : (resolution : ℕ) (polls : List Poll) → list_any (is_declared_on resolution) (map (uncounted resolution) polls) ≡ list_any (is_declared_on resolution) polls
any-declared resolution [] = refl
any-declared resolution (p ∷ ps) =
    let head = declared-uncounted resolution p in let rest = any-declared resolution ps in λ i. head i || rest i

pub hidden-declared : (secret : Secret) (o : OfficeLists) → is_declared_in secret (office_without secret o) ≡ is_declared_in secret o
hidden-declared secret o =
    view-changed (λ found. list_any (is_declared_on secret.resolution) (polls_in found)) o (hidden_in secret) secret.meeting secret.meeting (λ m. refl)
    (λ m. any-declared secret.resolution m.polls)

-- polls of which none is declared have no count
none-declared : (resolution : ℕ) (polls : List Poll) → list_any (is_declared_on resolution) polls ≡ false → map (uncounted resolution) polls ≡ polls
none-declared resolution [] none = refl
none-declared resolution (p ∷ ps) none =
    let head : uncounted resolution p ≡ p = here (first-none (is_declared_on resolution p) (list_any (is_declared_on resolution) ps) none) in
    let rest = none-declared resolution ps (second-none (is_declared_on resolution p) (list_any (is_declared_on resolution) ps) none) in
    λ i. head i ∷ rest i
  where
    first-none : (a b : Bool) → (a || b) ≡ false → a ≡ false
    first-none false b h = refl
    first-none true b h = h

    second-none : (a b : Bool) → (a || b) ≡ false → b ≡ false
    second-none false b h = h
    second-none true b h = absurd (true≢false h)

    here : is_declared_on resolution p ≡ false → uncounted resolution p ≡ p
    here =
        elim (p.resolution == resolution) as (λ b. (b && is_some p.declared) ≡ false → cond b (without_count p) p ≡ p) [
          | true ↦ (elim (p.declared) as (λ d. is_some d ≡ false → record p { declared = option_map (λ (tally : Tally). no_tally) d } ≡ record p { declared = d }) [
            | None ↦ λ _. refl
            | Some tally ↦ λ h. absurd (true≢false h)
          ])
          | false ↦ λ _. refl
        ]

-- while the resolution is not declared, the public records are those of the office with all votes
pub hidden-public : (secret : Secret) (o : OfficeLists) (at : List ℕ) → is_declared_in secret o ≡ false → public_of (office_without secret o) at ≡ public_of o at
hidden-public secret o at none =
    ap (λ found. public_in found o.closed) (hidden-found secret o at)
    ∙ (elim (same_name secret.meeting at) as (λ b. same_name secret.meeting at ≡ b
    → public_in (cond b (option_map (hidden_in secret) (meeting_at o at)) (meeting_at o at)) o.closed ≡ public_of o at) [
      | true ↦ λ is. subst (λ name. public_in (option_map (hidden_in secret) (meeting_at o name)) o.closed ≡ public_of o name) (same_name-true secret.meeting at is)
          ((elim (meeting_at o secret.meeting) as (λ found. list_any (is_declared_on secret.resolution) (polls_in found) ≡ false
          → public_in (option_map (hidden_in secret) found) o.closed ≡ public_in found o.closed) [
            | None ↦ λ _. refl
            | Some m ↦ λ h. ap (λ polls. record (public_in (Some m) o.closed) { polls = polls }) (none-declared secret.resolution m.polls h)
          ]) none)
      | false ↦ λ other. refl
    ]) refl

-- ---- the poll that is found

poll-uncounted : (resolution number : ℕ) (polls : List Poll) → poll_on (map (uncounted resolution) polls) number ≡ option_map (uncounted resolution) (poll_on polls number)
poll-uncounted resolution number [] = refl
poll-uncounted resolution number (p ∷ ps) =
    let seen = uncounted resolution in
    (elim (p.resolution == resolution) as (λ b. cond ((cond b (without_count p) p).resolution == number) (Some (seen p)) (poll_on (map seen ps) number)
    ≡ cond (p.resolution == number) (Some (seen p)) (poll_on (map seen ps) number)) [ true ↦ refl | false ↦ refl ])
    ∙ (elim (p.resolution == number) as (λ b. cond b (Some (seen p)) (poll_on (map seen ps) number) ≡ option_map seen (cond b (Some p) (poll_on ps number))) [
      | true ↦ refl
      | false ↦ poll-uncounted resolution number ps
    ])

-- what is seen alike of a poll whatever its count is seen alike of the one that is found
pub poll-seen : {Y : Type 0} (view : Option Poll → Y) (resolution number : ℕ) (polls : List Poll)
    → ((p : Poll) (a b : Tally) → view (Some (record p { declared = Some a })) ≡ view (Some (record p { declared = Some b })))
    → view (poll_on (map (uncounted resolution) polls) number) ≡ view (poll_on polls number)
poll-seen view resolution number polls same =
    ap view (poll-uncounted resolution number polls)
    ∙ elim (poll_on polls number) as (λ found. view (option_map (uncounted resolution) found) ≡ view found) [
      | None ↦ refl
      | Some p ↦ elim (p.resolution == resolution) as (λ b. view (Some (cond b (without_count p) p)) ≡ view (Some p)) [
        | true ↦ elim (p.declared) as (λ d. view (Some (record p { declared = option_map (λ (tally : Tally). no_tally) d })) ≡ view (Some (record p { declared = d }))) [
          | None ↦ refl
          | Some tally ↦ same p no_tally tally
        ]
        | false ↦ refl
      ]
    ]

-- ---- what is ruled without the count

-- a meeting without what was counted on a resolution
abbrev uncounted_in : ℕ → MeetingLists → MeetingLists
uncounted_in resolution m = record m { polls = map (uncounted resolution) m.polls }

declare-uncounted : (resolution : ℕ) (m : MeetingLists) (number : ℕ) → declare_cases (uncounted_in resolution m) number ≡ declare_cases m number
declare-uncounted resolution m number =
    poll-seen (λ found. no_resolution m.meeting number ∷ record { refusal = NoPoll; holds = is_none found } ∷ result_cases found) resolution number m.polls (λ p a b. refl)

tally-uncounted : (resolution : ℕ) (m : MeetingLists) (closed : List ℕ) (now number : ℕ) → declaration_of (uncounted_in resolution m) closed now number ≡ declaration_of m closed now number
tally-uncounted resolution m closed now number =
    poll-seen (λ found. result_on (slice_get m.meeting.resolutions (number - 1)) (tally_of (cutoffs_of m.meeting (vote_on (last_number m.meeting) found) closed now) m.register m.appointments m.endings m.authorities m.casts number))
    resolution number m.polls (λ p a b. refl)

-- a poll runs whatever is counted on it
running-uncounted : (resolution : ℕ) (closed : List ℕ) (polls : List Poll) → list_any (is_running closed) (map (uncounted resolution) polls) ≡ list_any (is_running closed) polls
running-uncounted resolution closed [] = refl
running-uncounted resolution closed (p ∷ ps) =
    elim (p.resolution == resolution) as (λ b. (is_running closed (cond b (without_count p) p) || list_any (is_running closed) (map (uncounted resolution) ps))
    ≡ (is_running closed p || list_any (is_running closed) ps)) [
      | true ↦ ap (λ rest. is_running closed p || rest) (running-uncounted resolution closed ps)
      | false ↦ ap (λ rest. is_running closed p || rest) (running-uncounted resolution closed ps)
    ]

ruling-uncounted : (resolution : ℕ) (m : MeetingLists) (closed : List ℕ) (now : ℕ) (what : OfficeRequest) → ruling_on closed now what (uncounted_in resolution m) ≡ ruling_on closed now what m
ruling-uncounted resolution m closed now (LoadRegister new) = refl
ruling-uncounted resolution m closed now (Presence who) = refl
ruling-uncounted resolution m closed now OpenMeeting = refl
ruling-uncounted resolution m closed now (Adjourn appointed) =
    ap (λ running. record {
      cases = record { refusal = TooMany; holds = nat_le MOST_SESSIONS (last_number m.meeting) }
          ∷ record { refusal = NotOpened; holds = not (is_opened (last_session m.meeting)) }
          ∷ record { refusal = Early; holds = nat_le appointed now }
          ∷ record { refusal = PollRunning; holds = running } ∷ [];
      accepted = (adjourn_ruling m closed now appointed).accepted;
    }) (running-uncounted resolution closed m.polls)
ruling-uncounted resolution m closed now (Order new) =
    poll-seen (λ found. record {
      cases = no_resolution m.meeting new.resolution
          ∷ record { refusal = NotOpened; holds = not (is_opened (last_session m.meeting)) }
          ∷ record { refusal = Early; holds = nat_lt new.take now }
          ∷ record { refusal = PollOrdered; holds = is_some found }
          ∷ record { refusal = DemandTooSmall; holds = not new.chair && not (demand_noted m closed now new.resolution).reached } ∷ [];
      accepted = record { reply = reply.Ordered; change = Some (AddPoll (poll_of m.meeting now new)) };
    }) resolution new.resolution m.polls (λ p a b. refl)
ruling-uncounted resolution m closed now (Start number) =
    poll-seen (λ found. record {
      cases = record { refusal = Exists; holds = there_is is_started found }
          ∷ no_resolution m.meeting number
          ∷ record { refusal = Early; holds = there_is (is_taken_after now) found }
          ∷ record { refusal = NoPoll; holds = is_none found } ∷ [];
      accepted = record { reply = reply.Started; change = Some (SetPoll number (poll.Started now)) };
    }) resolution number m.polls (λ p a b. refl)
ruling-uncounted resolution m closed now (Close number) =
    poll-seen (λ found. record {
      cases = no_resolution m.meeting number
          ∷ record { refusal = NoPoll; holds = is_none found }
          ∷ record { refusal = PollNotOpen; holds = there_is is_waiting found }
          ∷ record { refusal = PollClosed; holds = there_is is_closed found } ∷ [];
      accepted = record { reply = reply.VotingClosed; change = Some (SetPoll number (poll.Closed now)) };
    }) resolution number m.polls (λ p a b. refl)
ruling-uncounted resolution m closed now (Declare number) =
    let cases = declare-uncounted resolution m number in
    let declared = tally-uncounted resolution m closed now number in
    λ i. record {
      cases = cases i;
      accepted = record { reply = reply.Declared (declared i); change = Some (SetPoll number (poll.Declared (declared i).tally)) };
    }

-- ---- what is ruled without the votes too

-- the votes on other resolutions are among those that are not secret
casts-off : (secret : Secret) (casts : List CastMark)
    → casts_off secret.resolution (filter (λ (c : CastMark). not (is_secret_cast secret c)) casts) ≡ casts_off secret.resolution casts
casts-off secret casts =
    let off = λ (c : CastMark). not (c.resolution == secret.resolution) in
    let open_casts = λ (c : CastMark). not (is_secret_cast secret c) in
    filter-among off open_casts casts (all-of (λ c. implies (off c) (open_casts c)) casts (λ c. implied (off c) (open_casts c) (fails (c.resolution == secret.resolution) (secret.voters c.voter))))
  where
    fails : (a b : Bool) → not a ≡ true → not (a && b) ≡ true
    fails true b h = absurd (cc)
    fails false b h = refl

ruling-hidden : TheOfficeLearnsNoVotes → (secret : Secret) (m : MeetingLists) (closed : List ℕ) (now : ℕ) (what : OfficeRequest) → declares secret.resolution what ≡ false
    → ruling_on closed now what (hidden_in secret m) ≡ ruling_on closed now what m
ruling-hidden law secret m closed now what other =
    law (uncounted_in secret.resolution m) (filter (λ (c : CastMark). not (is_secret_cast secret c)) m.casts) secret.resolution closed now what (casts-off secret m.casts) other
    ∙ ruling-uncounted secret.resolution m closed now what

-- of two tests of which not both hold, the second fails where the first holds of the names turned
pub second-fails : (at id : List ℕ) (b : Bool) → same_name id at ≡ true → (same_name at id && b) ≡ false → b ≡ false
second-fails at id b is h = ap (λ t. t && b) (sym (turned at id is)) ∙ h

office-hidden : TheOfficeLearnsNoVotes → (secret : Secret) (o : OfficeLists) (at : List ℕ) (now : ℕ) (what : OfficeRequest) → (same_name at secret.meeting && declares secret.resolution what) ≡ false
    → office_ruling o.closed (meeting_at (office_without secret o) at) now what ≡ office_ruling o.closed (meeting_at o at) now what
office-hidden law secret o at now what h =
    ap (λ found. office_ruling o.closed found now what) (hidden-found secret o at)
    ∙ (elim (same_name secret.meeting at) as (λ b. same_name secret.meeting at ≡ b
    → office_ruling o.closed (cond b (option_map (hidden_in secret) (meeting_at o at)) (meeting_at o at)) now what ≡ office_ruling o.closed (meeting_at o at) now what) [
      | true ↦ λ is. (elim (meeting_at o at) as (λ found. office_ruling o.closed (option_map (hidden_in secret) found) now what ≡ office_ruling o.closed found now what) [
        | None ↦ refl
        | Some m ↦ ap (asked_first (record { refusal = NoMeeting; holds = false })) (ruling-hidden law secret m o.closed now what (second-fails at secret.meeting (declares secret.resolution what) is h))
      ])
      | false ↦ λ other. refl
    ]) refl

-- ---- what the office is answered

-- an answer without what is secret of it
abbrev pub hidden_answer : Secret → Request → Answer Change → Answer Change
hidden_answer secret request a = record { reply = but_result secret request a.reply; change = hidden_some secret a.change }

-- a call of the office
abbrev pub office_call : ℕ → Request → Call
office_call now request = record { moment = now; caller = caller.Office; request = request }

desk-hidden : (secret : Secret) (o : OfficeLists) (what : DeskRequest)
    → ruled_answer (desk_ruling o.keys o.closed (office_without secret o).meetings what) ≡ ruled_answer (desk_ruling o.keys o.closed o.meetings what)
desk-hidden secret o (desk.CallMeeting new) =
    let found : is_some (meeting_named (office_without secret o).meetings new.meeting) ≡ is_some (meeting_named o.meetings new.meeting) =
    view-changed is_some o (hidden_in secret) secret.meeting new.meeting (λ m. refl) (λ m. refl) in
    let long : length (office_without secret o).meetings ≡ length o.meetings = length-change_first (λ (m : MeetingLists). same_name m.meeting.id secret.meeting) (hidden_in secret) o.meetings in
    λ i. ruled_answer (record {
      cases = record { refusal = Exists; holds = found i }
          ∷ record { refusal = ShortNotice; holds = not (is_enough_notice new.company new.kind new.given (day_of_moment new.appointed)) }
          ∷ record { refusal = TooMany; holds = nat_le MOST_MEETINGS (long i) } ∷ [];
      accepted = (call_ruling o.meetings new).accepted;
    })
desk-hidden secret o (desk.ClosedDays days) = refl
desk-hidden secret o (desk.Keys rows) = refl

-- the answer to the declaration of a resolution in a meeting that is found
abbrev declare_found : Option MeetingLists → List ℕ → List ℕ → ℕ → ℕ → Answer Change
declare_found found closed at now number = ruled_answer (map_ruling_change (InMeeting at) (in_found found (ruling_on closed now (Declare number))))

-- what is declared, as the change of the meeting of a name
abbrev declared_answer : List ℕ → ℕ → Declaration → Answer Change
declared_answer at number result = record { reply = reply.Declared result; change = Some (InMeeting at (SetPoll number (poll.Declared result.tally))) }

-- of the declaration of the resolution nothing is left but that it is declared
result-hidden : (secret : Secret) (at : List ℕ) (number : ℕ) (result : Declaration) → (same_name at secret.meeting && (number == secret.resolution)) ≡ true
    → hidden_answer secret (asked.Office at (Declare number)) (declared_answer at number result)
    ≡ declared_answer at number (record { tally = no_tally; carried = false })
result-hidden secret at number result asks =
    let is = first_so (same_name at secret.meeting) (number == secret.resolution) asks in
    let on = second_so (same_name at secret.meeting) (number == secret.resolution) asks in
    λ i. record {
      reply = cond (asks i) (reply.Declared (record { tally = no_tally; carried = false })) (reply.Declared result);
      change = cond (is i) (Some (InMeeting at (SetPoll number (poll.Declared (cond (on i) no_tally result.tally))))) (Some (InMeeting at (SetPoll number (poll.Declared result.tally))));
    }

-- two answers of which the same is left, or else a refusal
unless-hidden : (secret : Secret) (request : Request) (refusal : Option Refusal) (one other : Answer Change) → hidden_answer secret request one ≡ hidden_answer secret request other
    → hidden_answer secret request (refused_or refusal one) ≡ hidden_answer secret request (refused_or refusal other)
unless-hidden secret request None one other same = same
unless-hidden secret request (Some refusal) one other same = refl

declare-hidden : (secret : Secret) (o : OfficeLists) (at : List ℕ) (now number : ℕ) → (same_name at secret.meeting && (number == secret.resolution)) ≡ true
    → hidden_answer secret (asked.Office at (Declare number)) (declare_found (meeting_at (office_without secret o) at) o.closed at now number)
    ≡ hidden_answer secret (asked.Office at (Declare number)) (declare_found (meeting_at o at) o.closed at now number)
declare-hidden secret o at now number asks =
    ap (λ found. seen (declare_found found o.closed at now number)) (hidden-found secret o at)
    ∙ elim (same_name secret.meeting at) as (λ b. seen (declare_found (cond b (option_map (hidden_in secret) (meeting_at o at)) (meeting_at o at)) o.closed at now number)
    ≡ seen (declare_found (meeting_at o at) o.closed at now number)) [
      | true ↦ elim (meeting_at o at) as (λ found. seen (declare_found (option_map (hidden_in secret) found) o.closed at now number) ≡ seen (declare_found found o.closed at now number)) [
        | None ↦ refl
        | Some m ↦ in_it m
      ]
      | false ↦ refl
    ]
  where
    seen : Answer Change → Answer Change
    seen = hidden_answer secret (asked.Office at (Declare number))

    refused_by : MeetingLists → Option Refusal
    refused_by m = first_refusal (record { refusal = NoMeeting; holds = false } ∷ declare_cases m number)

    in_it : (m : MeetingLists) → seen (declare_found (Some (hidden_in secret m)) o.closed at now number) ≡ seen (declare_found (Some m) o.closed at now number)
    in_it m =
        ap (λ cases. seen (refused_or (first_refusal (record { refusal = NoMeeting; holds = false } ∷ cases)) (declared_answer at number (declaration_of (hidden_in secret m) o.closed now number))))
        (declare-uncounted secret.resolution m number)
        ∙ unless-hidden secret (asked.Office at (Declare number)) (refused_by m) (declared_answer at number (declaration_of (hidden_in secret m) o.closed now number))
        (declared_answer at number (declaration_of m o.closed now number))
        (result-hidden secret at number (declaration_of (hidden_in secret m) o.closed now number) asks ∙ sym (result-hidden secret at number (declaration_of m o.closed now number) asks))

-- the answer to the declaration of the resolution
asked-hidden : (secret : Secret) (o : OfficeLists) (at : List ℕ) (now : ℕ) (what : OfficeRequest) → (same_name at secret.meeting && declares secret.resolution what) ≡ true
    → hidden_answer secret (asked.Office at what) (decided (office_without secret o) (office_call now (asked.Office at what)))
    ≡ hidden_answer secret (asked.Office at what) (decided o (office_call now (asked.Office at what)))
asked-hidden secret o at now (Declare number) asks = declare-hidden secret o at now number asks
asked-hidden secret o at now other asks = (let no : false ≡ true = second_so (same_name at secret.meeting) false asks in absurd (true≢false (sym no)))

-- the office is answered the same without the secret votes, but for the result of the resolution
pub office-alike : TheOfficeLearnsNoVotes → (secret : Secret) (o : OfficeLists) (now : ℕ) (request : Request)
    → hidden_answer secret request (decided (office_without secret o) (office_call now request)) ≡ hidden_answer secret request (decided o (office_call now request))
office-alike law secret o now (asked.Desk what) = ap (hidden_answer secret (asked.Desk what)) (desk-hidden secret o what)
office-alike law secret o now (asked.Office at what) =
    (elim (same_name at secret.meeting && declares secret.resolution what) as (λ b. (same_name at secret.meeting && declares secret.resolution what) ≡ b
    → hidden_answer secret (asked.Office at what) (decided (office_without secret o) (office_call now (asked.Office at what)))
    ≡ hidden_answer secret (asked.Office at what) (decided o (office_call now (asked.Office at what)))) [
      | true ↦ λ asks. asked-hidden secret o at now what asks
      | false ↦ λ none. ap (λ ruling. hidden_answer secret (asked.Office at what) (ruled_answer (map_ruling_change (InMeeting at) ruling))) (office-hidden law secret o at now what none)
    ]) refl
office-alike law secret o now (asked.Party at what) = refl
