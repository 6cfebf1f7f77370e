-- What a proxy may vote on by its own things is what the rules give it.
use Rattle.std.proofs.Common.{◌≡◌, ℕ, ◌+◌, ◌≤◌, Bool, true, false, not, ◌&&◌, cond, List, [], ◌∷◌, find, filter, map, refl, sym, ap, ◌∙◌, arith, inl, inr}
use Rattle.std.specs.Prelude.{◌==◌, nat_le, nat_lt, Option, Some, None, option_map, option_and_then, is_some}
use Rattle.std.specs.Cmp.{both_ways, first_so, second_so}
use Rattle.std.specs.List.{list_any}
use Rattle.std.specs.Option.{option_map_or}
use Rattle.std.proofs.Math.Bool.{and-false}
use Rattle.std.proofs.lemmas.Bool.{and_from, eqb-true, leb-true}
use Rattle.std.proofs.lemmas.Bool.Decides.{nat_tests}
use Rattle.seq.proofs.Filtered.{any-filter, found-passes}
use Rattle.vocabulary.specs.Names.{same_name}
use Rattle.vocabulary.specs.Places.{Places, holds}
use Rattle.vocabulary.specs.declared.kinds.Capacity.TheVariants.{Proxy}
use Rattle.desk_words.proofs.WordRowLemmas.{same_name-true}
use Rattle.desk_words.specs.Finding.{poll_on}
use Rattle.desk_words.specs.Office.{is_meeting}
use Rattle.desk_words.specs.declared.office.MeetingLists.{MeetingLists}
use Rattle.desk_words.specs.declared.own_things.PollGoverned.{PollGoverned}
use Rattle.desk_words.specs.declared.own_things.Received.{Received}
use Rattle.desk_words.specs.declared.records.Appointment.{Appointment}
use Rattle.desk_words.specs.declared.records.Meeting.{Meeting}
use Rattle.desk_words.specs.declared.records.Poll.{Poll}
use Rattle.desk_words.specs.Sessions.{last_number, session_of}
use Rattle.desk_words.specs.declared.request.NewCast.{NewCast}
use Rattle.proxy_rules.specs.Cutoffs.{cutoffs_of, is_late_poll, late_cutoffs, session_cutoffs}
use Rattle.proxy_rules.specs.Governing.{governed_in, governs, has_share, last_over, unended}
use Rattle.proxy_rules.specs.Holdings.{holding_of, holding_with}
use Rattle.proxy_rules.specs.Instructions.{allows, instructed_on}
use Rattle.proxy_rules.specs.Parties.{names}
use Rattle.proxy_rules.specs.PlaceRuns.{are_parted}
use Rattle.proxy_rules.specs.Shares.{shares_by}
use Rattle.proxy_rules.specs.Uses.{Vote, vote_on}
use Rattle.proxy_rules.specs.declared.holdings.Holding.{Holding}
use Rattle.proxy_rules.specs.declared.meeting_records.Cutoffs.{Cutoffs}
use Rattle.proxy_rules.proofs.ProxyNameLemmas.{same_name-sym}
use Rattle.proxy_rules.proofs.ProxyRunLemmas.{are_in-runs_that, are_parted-runs_that}
use Rattle.poll_rules.proofs.GatherLemmas.{list_any-map}
use Rattle.party_views.specs.OwnViews.{known_to_proxy}
use Rattle.caller_view.specs.Rights.{Governs, forbids, governed_for, governed_votes, governs_at, instructs, is_against, is_governed, is_uninstructed, meets, no_runs}
use Rattle.party_views.specs.SessionLists.{each_session}
use Rattle.party_views.specs.Views.{own_in}
use Rattle.laws_step.specs.DemandsAndGoverning.{known_in, shares_governed}
use Rattle.laws_step.specs.Proxies.{InstructedByTheRules, InstructionsBindByTheRules, ProxiesGovernByTheRules, binds_otherwise, cutoffs_on, governing_for, instructs_it, is_instructed_in, some_pass, use_in}
use Rattle.laws_step.proofs.AnyLemmas.{any-and, any-In, In-any}
use Rattle.laws_step.proofs.CapacityLemmas.{facts, passing-rows}
use Rattle.laws_step.proofs.StepNumberLemmas.{In}
use Rattle.laws_step.proofs.OwnThingsLemmas.{what_governs}
use Rattle.laws_step.proofs.StepPlaceLemmas.{some_place, some_place-and, some_place-any, some_place-found, some_place-is}
use Rattle.laws_step.proofs.ProxyLemmas.{governing-passing}
use Rattle.laws_step.proofs.StepSessionLemmas.{in_session, votes-shown}

-- ---- what is found

-- what is found among what is made of values is made of what is found
found-made : {X Y : Type 0} (test : Y → Bool) (make : X → Y) (xs : List X) → find test (map make xs) ≡ option_map make (find (λ x. test (make x)) xs)
found-made test make [] = refl
found-made test make (x ∷ xs) =
    elim (test (make x)) as (λ b. cond b (Some (make x)) (find test (map make xs)) ≡ option_map make (cond b (Some x) (find (λ x. test (make x)) xs))) [
      | true ↦ refl
      | false ↦ found-made test make xs
    ]

-- what is found, and is kept, is found among what is kept
found-filtered : {X : Type 0} (test keeps : X → Bool) (xs : List X) (x : X) → find test xs ≡ Some x → keeps x ≡ true → find test (filter keeps xs) ≡ Some x
found-filtered test keeps [] x found preserved = found
found-filtered test keeps (y ∷ ys) x found preserved =
    (elim (test y) as (λ b. test y ≡ b → cond b (Some y) (find test ys) ≡ Some x → find test (filter keeps (y ∷ ys)) ≡ Some x) [
      | true ↦ λ passes e.
          let same : y ≡ x = cc in
          ap (λ b. find test (cond b (y ∷ filter keeps ys) (filter keeps ys))) (ap keeps same ∙ preserved)
          ∙ ap (λ b. cond b (Some y) (find test (filter keeps ys))) passes
          ∙ ap (λ z. Some z) same
      | false ↦ λ fails e.
          let rest = found-filtered test keeps ys x e preserved in
          (elim (keeps y) as (λ b. find test (cond b (y ∷ filter keeps ys) (filter keeps ys)) ≡ Some x) [
            | true ↦ ap (λ b. cond b (Some y) (find test (filter keeps ys))) fails ∙ rest
            | false ↦ rest
          ])
    ]) refl found

-- ---- what governs for a poll

module _ (meeting : Meeting) (closed : List ℕ) (now : ℕ) (governed : Cutoffs → List Places) where
  -- what is governed for a late poll, as a proxy knows it
  abbrev for_late : Poll → PollGoverned
  for_late poll = record { resolution = poll.resolution; governs = governed (cutoffs_of meeting (Vote poll) closed now) }

  -- what a proxy knows of an appointment
  abbrev known : Appointment → List PollGoverned → Received
  known a polls = known_to_proxy a (each_session (in_session meeting closed now governed) meeting) polls

  -- what a proxy knows of an appointment in sessions, and on late polls, is by the cutoffs of the poll that is found
  by_the_cutoffs : (a : Appointment) (polls : List Poll) (resolution session : ℕ) (found : Option Poll) → poll_on polls resolution ≡ found
      → governed_for closed (vote_on session found) (known a (map for_late (filter (is_late_poll closed) polls)))
      ≡ governed (cutoffs_of meeting (vote_on session found) closed now)
  by_the_cutoffs a polls resolution session None e = votes-shown meeting closed now governed session
  by_the_cutoffs a polls resolution session (Some p) e =
      let on : p.resolution ≡ resolution = eqb-true p.resolution resolution (found-passes (λ (q : Poll). q.resolution == resolution) polls p e) in
      let there : poll_on polls p.resolution ≡ Some p = ap (poll_on polls) on ∙ e in
      let own = session_of meeting p.session in
      (elim (is_late_poll closed p) as (λ b. is_late_poll closed p ≡ b
      → cond b
      (option_map_or (λ (q : PollGoverned). q.governs) (find (λ (q : PollGoverned). q.resolution == p.resolution) (map for_late (filter (is_late_poll closed) polls))) [])
      (governed_votes p.session (known a (map for_late (filter (is_late_poll closed) polls))))
      ≡ governed (cond b (late_cutoffs p closed) (session_cutoffs own own closed now))) [
        | true ↦ λ late.
            ap (λ o. option_map_or (λ (q : PollGoverned). q.governs) o [])
            (found-made (λ (q : PollGoverned). q.resolution == p.resolution) for_late (filter (is_late_poll closed) polls)
            ∙ ap (option_map for_late) (found-filtered (λ (q : Poll). q.resolution == p.resolution) (is_late_poll closed) polls p there late))
            ∙ ap (λ b. governed (cond b (late_cutoffs p closed) (session_cutoffs own own closed now))) late
        | false ↦ λ timely. votes-shown meeting closed now governed p.session
      ]) refl

-- ---- runs

module _ (cutoffs : Cutoffs) (holding : Holding) (number : ℕ) where
  -- the runs of what an appointment governs hold the places that it governs
  runs-hold : (place : ℕ) → list_any (λ (run : Places). holds run place) (governed_in cutoffs holding number) ≡ governs cutoffs holding number place
  runs-hold place =
      are_in-runs_that (governs cutoffs holding number) holding.shares place
      ∙ elim (has_share holding place) as (λ b. (b && shows (cond b (option_and_then (unended cutoffs holding) (last_over cutoffs holding place)) None))
      ≡ shows (cond b (option_and_then (unended cutoffs holding) (last_over cutoffs holding place)) None)) [
        | true ↦ refl
        | false ↦ refl
      ]
    where
      shows : Option Appointment → Bool
      shows found = option_map_or (λ (a : Appointment). a.number == number) found false

  -- each run has a place
  run_up : (runs : List Places) (run : Places) → are_parted runs ≡ true → In run runs → nat_le run.from run.to ≡ true
  run_up [] run parted here = absurd here
  run_up (x ∷ []) run parted here = elim here [
    | inl same ↦ ap (λ (r : Places). nat_le r.from r.to) (sym same) ∙ parted
    | inr later ↦ absurd later
  ]
  run_up (x ∷ y ∷ runs) run parted here =
      let two = nat_le x.from x.to && nat_lt (x.to + 1) y.from in
      elim here [
        | inl same ↦ ap (λ (r : Places). nat_le r.from r.to) (sym same) ∙ first_so (nat_le x.from x.to) (nat_lt (x.to + 1) y.from) (first_so two (are_parted (y ∷ runs)) parted)
        | inr later ↦ run_up (y ∷ runs) run (second_so two (are_parted (y ∷ runs)) parted) later
      ]

  -- a run meets a range exactly where the appointment governs some place of the range
  runs-meet : (from to : ℕ) → 1 ≤ from → from ≤ to → list_any (meets from to) (governed_in cutoffs holding number) ≡ some_pass (governs cutoffs holding number) from to
  runs-meet from to one up =
      let runs = governed_in cutoffs holding number in
      let passes : ℕ → Bool = λ place. nat_le from place && governs cutoffs holding number place in
      both_ways (list_any (meets from to) runs) (some_place passes to)
      (λ some.
      let found = In-any (meets from to) runs some in
      let run = found.0 in
      let begins = first_so (nat_le run.from to) (nat_le from run.to) found.1.1 in
      let ends = second_so (nat_le run.from to) (nat_le from run.to) found.1.1 in
      let rises = run_up runs run (are_parted-runs_that (governs cutoffs holding number) holding.shares) found.1.0 in
      let at = λ (place : ℕ) (after : from ≤ place) (before : place ≤ to) (has : holds run place ≡ true).
      some_place-is passes to place (omega (arith, one, after)) before
      (and_from (nat_le from place) (governs cutoffs holding number place) (grind (arith, nat_tests, after))
      (sym (runs-hold place) ∙ any-In (λ (r : Places). holds r place) runs run found.1.0 has)) in
      (elim (nat_le from run.from) as (λ b. nat_le from run.from ≡ b → some_place passes to ≡ true) [
        | true ↦ λ later. at run.from (grind (arith, nat_tests, later)) (grind (arith, nat_tests, begins)) (grind (arith, nat_tests, rises))
        | false ↦ λ sooner. at from (omega arith) up (grind (arith, nat_tests, sooner, ends))
      ]) refl)
      (λ some.
      let found = some_place-found passes to some in
      let place = found.place in
      let after = first_so (nat_le from place) (governs cutoffs holding number place) found.passes in
      let governed = second_so (nat_le from place) (governs cutoffs holding number place) found.passes in
      let has = In-any (λ (r : Places). holds r place) runs (runs-hold place ∙ governed) in
      let run = has.0 in
      let begins = first_so (nat_le run.from place) (nat_le place run.to) has.1.1 in
      let ends = second_so (nat_le run.from place) (nat_le place run.to) has.1.1 in
      any-In (meets from to) runs run has.1.0 (meets_by run.from run.to place begins ends after found.below))
    where
      meets_by : (first last place : ℕ) → nat_le first place ≡ true → nat_le place last ≡ true → nat_le from place ≡ true → place ≤ to → (nat_le first to && nat_le from last) ≡ true
      meets_by first last place begins ends after below = grind (arith, nat_tests, begins, ends, after, below)

-- ---- what a proxy is told

module _ (m : MeetingLists) (closed party : List ℕ) (now resolution : ℕ) where
  -- what a proxy knows of an appointment for the poll is what the appointment governs by the cutoffs of the poll
  known-governs : (a : Appointment) → governed_for closed (use_in m closed resolution) (known_in m closed now a) ≡ shares_governed m (cutoffs_on m closed now resolution) a
  known-governs a = by_the_cutoffs m.meeting closed now (λ cutoffs. shares_governed m cutoffs a) a m.polls resolution (last_number m.meeting) (poll_on m.polls resolution) refl

  -- whether any appointment that is known to the party passes, by all appointments
  known-any : (test : Received → Bool) → is_meeting m ≡ true
      → list_any test (own_in m closed party now).received ≡ list_any (λ a. names party a && test (known_in m closed now a)) m.appointments
  known-any test h =
      ap (list_any test) (what_governs m closed party now h)
      ∙ list_any-map test (known_in m closed now) (filter (names party) m.appointments)
      ∙ any-filter (λ a. test (known_in m closed now a)) (names party) m.appointments

  -- three conditions
  joined-and : (a b c : Bool) → (a && (b && c)) ≡ ((a && b) && c)
  joined-and true b c = refl
  joined-and false b c = refl

  instructed-rules : is_meeting m ≡ true
      → is_uninstructed (own_in m closed party now) (governed_for closed (use_in m closed resolution)) resolution
      ≡ not (list_any (is_instructed_in m closed now party resolution) m.register)
  instructed-rules h =
      let shown : Appointment → Bool = λ a. is_some (instructed_on resolution a.instructions) in
      let f = facts m h in
      ap not
      (known-any (instructs (governed_for closed (use_in m closed resolution)) resolution) h
      ∙ ap (λ test. list_any test m.appointments)
      (λ i (a : Appointment).
      (ap (λ runs. names party a && (shown a && not (no_runs runs))) (known-governs a)
      ∙ joined-and (names party a) (shown a) (not (no_runs (shares_governed m (cutoffs_on m closed now resolution) a)))) i)
      ∙ passing-rows (cutoffs_on m closed now resolution) m party (instructs_it party resolution) f.rows f.numbered)

module _ (m : MeetingLists) (closed party : List ℕ) (now : ℕ) (new : NewCast) where
  abbrev shown_governs : Governs
  shown_governs = governed_for closed (use_in m closed new.resolution)

  -- the cutoffs of the poll of the vote
  abbrev cutoffs_for : Cutoffs
  cutoffs_for = cutoffs_on m closed now new.resolution

  -- the member of the appointment is that of the vote, and the appointment governs the place
  abbrev own_governs : Appointment → ℕ → Bool
  own_governs a place =
      same_name new.member a.member && governs cutoffs_for (holding_with (shares_by m.register new.member) m.appointments m.endings a.member) a.number place

  -- of the member of the vote the shares are those of the vote's member
  own-shares : (a : Appointment) (place : ℕ)
      → (same_name a.member new.member && governs cutoffs_for (holding_of m.register m.appointments m.endings a.member) a.number place) ≡ own_governs a place
  own-shares a place =
      let asks = λ (member : List ℕ). governs cutoffs_for (holding_with (shares_by m.register member) m.appointments m.endings a.member) a.number place in
      (elim (same_name a.member new.member) as (λ b. same_name a.member new.member ≡ b → (b && asks a.member) ≡ (b && asks new.member)) [
        | true ↦ λ same. ap asks (same_name-true a.member new.member same)
        | false ↦ λ other. refl
      ]) refl
      ∙ ap (λ b. b && asks new.member) (same_name-sym a.member new.member)

  -- whether the one that governs a place passes, by all appointments
  passing : (test : Appointment → Bool) (place : ℕ) → is_meeting m ≡ true
      → list_any (λ a. test a && own_governs a place) m.appointments ≡ option_map_or test (governing_for m closed now new place) false
  passing test place h =
      governing-passing cutoffs_for (shares_by m.register new.member) m.appointments m.endings new.member test place (facts m h).numbered

  -- an appointment governs the place by what is known of it
  governs-known : (a : Appointment) (place : ℕ) → governs_at shown_governs new place (known_in m closed now a) ≡ own_governs a place
  governs-known a place =
      ap (λ runs. same_name a.member new.member && list_any (λ (run : Places). holds run place) runs) (known-governs m closed party now new.resolution a)
      ∙ ap (λ b. same_name a.member new.member && b) (runs-hold cutoffs_for (holding_of m.register m.appointments m.endings a.member) a.number place)
      ∙ own-shares a place

  governed-rules : (place : ℕ) → is_meeting m ≡ true
      → is_governed (own_in m closed party now).received shown_governs new place ≡ option_map_or (names party) (governing_for m closed now new place) false
  governed-rules place h =
      known-any m closed party now new.resolution (governs_at shown_governs new place) h
      ∙ ap (λ test. list_any test m.appointments) (λ i (a : Appointment). names party a && governs-known a place i)
      ∙ passing (names party) place h

  -- ---- instructions

  -- the appointment instructs otherwise
  abbrev otherwise : Appointment → Bool
  otherwise a = not (allows (instructed_on new.resolution a.instructions) new.way)

  -- five conditions, in the order of the rules
  turned : (named same other after governed : Bool) → (named && ((same && other) && (after && governed))) ≡ (after && ((named && other) && (same && governed)))
  turned false same other after governed = sym (and-false after)
  turned true false other after governed = sym (ap (λ b. after && b) (and-false other) ∙ and-false after)
  turned true true false after governed = sym (and-false after)
  turned true true true after governed = refl

  -- the appointment governs the place by its own member's shares
  abbrev governs_there : Appointment → ℕ → Bool
  governs_there a place = governs cutoffs_for (holding_of m.register m.appointments m.endings a.member) a.number place

  -- an appointment forbids a vote by what is known of it where it governs some place of the range
  forbids-known : (a : Appointment) → 1 ≤ new.from → new.from ≤ new.to
      → (names party a && forbids shown_governs new (known_in m closed now a))
      ≡ some_place (λ place. names party a && ((same_name a.member new.member && otherwise a) && (nat_le new.from place && governs_there a place))) new.to
  forbids-known a one up =
      let own = same_name a.member new.member && otherwise a in
      let within : ℕ → Bool = λ place. nat_le new.from place && governs_there a place in
      ap (λ runs. names party a && (own && list_any (meets new.from new.to) runs)) (known-governs m closed party now new.resolution a)
      ∙ ap (λ b. names party a && (own && b)) (runs-meet cutoffs_for (holding_of m.register m.appointments m.endings a.member) a.number new.from new.to one up)
      ∙ ap (λ b. names party a && b) (some_place-and own within new.to)
      ∙ some_place-and (names party a) (λ place. own && within place) new.to

  -- at a place
  bound-at : (place : ℕ) → is_meeting m ≡ true
      → list_any (λ a. names party a && ((same_name a.member new.member && otherwise a) && (nat_le new.from place && governs_there a place))) m.appointments
      ≡ (nat_le new.from place && option_map_or (binds_otherwise party new) (governing_for m closed now new place) false)
  bound-at place h =
      ap (λ test. list_any test m.appointments)
      (λ i (a : Appointment). turned (names party a) (same_name a.member new.member) (otherwise a) (nat_le new.from place) (governs_there a place) i)
      ∙ any-and (nat_le new.from place) (λ a. binds_otherwise party new a && (same_name a.member new.member && governs_there a place)) m.appointments
      ∙ ap (λ test. nat_le new.from place && list_any test m.appointments) (λ i (a : Appointment). binds_otherwise party new a && own-shares a place i)
      ∙ ap (λ b. nat_le new.from place && b) (passing (binds_otherwise party new) place h)

  bound-rules : is_meeting m ≡ true → 1 ≤ new.from → new.from ≤ new.to
      → is_against (own_in m closed party now) shown_governs new Proxy
      ≡ some_pass (λ place. option_map_or (binds_otherwise party new) (governing_for m closed now new place) false) new.from new.to
  bound-rules h one up =
      known-any m closed party now new.resolution (forbids shown_governs new) h
      ∙ ap (λ test. list_any test m.appointments) (λ i (a : Appointment). forbids-known a one up i)
      ∙ some_place-any
      (λ a place. names party a && ((same_name a.member new.member && otherwise a) && (nat_le new.from place && governs_there a place)))
      m.appointments new.to
      ∙ ap (λ test. some_place test new.to) (λ i place. bound-at place h i)

pub governed_by_the_rules : ProxiesGovernByTheRules
governed_by_the_rules m closed party now new place h = governed-rules m closed party now new place h

pub bound_by_the_rules : InstructionsBindByTheRules
bound_by_the_rules m closed party now new h range =
    let ends = first_so (nat_le 1 new.from && nat_le new.from new.to) _ range in
    let one = first_so (nat_le 1 new.from) (nat_le new.from new.to) ends in
    let up = second_so (nat_le 1 new.from) (nat_le new.from new.to) ends in
    bound-rules m closed party now new h (leb-true 1 new.from one) (leb-true new.from new.to up)

pub instructed_by_the_rules : InstructedByTheRules
instructed_by_the_rules m closed party now resolution h = instructed-rules m closed party now resolution h
