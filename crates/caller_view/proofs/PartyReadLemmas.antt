-- The answer to a request reads no more of the party's own things than is said.
use Rattle.std.proofs.Common.{◌≡◌, ℕ, Bool, true, false, not, ◌&&◌, ◌||◌, cond, List, [], ◌∷◌, filter, map, Some, None, refl, sym, ap, subst, ◌∙◌}
use Rattle.std.specs.Prelude.{◌==◌, Option, is_none, is_some, nat_le, nat_lt}
use Rattle.std.specs.List.{list_any}
use Rattle.std.specs.Option.{option_map_or}
use Rattle.std.proofs.lemmas.Bool.{eq-eqb, eqb-true}
use Rattle.seq.proofs.Filtered.{found-passes}
use Rattle.vocabulary.specs.Names.{same_name}
use Rattle.vocabulary.specs.Places.{Places, holds, is_range}
use Rattle.vocabulary.specs.Refusals.{Case}
use Rattle.vocabulary.specs.declared.kinds.Capacity.{Capacity}
use Rattle.vocabulary.specs.declared.kinds.Capacity.TheVariants.{Member, Rep, Proxy}
use Rattle.vocabulary.specs.declared.refusal.Refusal.TheVariants.{BadRange, TooMany, NoRegister, NotOpened, NotPresent, NoRight, NoPoll, PollOrdered, PollNotOpen, PollClosed, NotYours, AgainstInstruction}
use Rattle.desk_words.specs.declared.limits.TheConstants.{MOST_CASTS}
use Rattle.desk_words.specs.Finding.{poll_on}
use Rattle.desk_words.specs.PollStates.{is_closed, is_waiting, there_is}
use Rattle.desk_words.specs.Rulings.{in_found, no_resolution}
use Rattle.desk_words.specs.Sessions.{is_opened, last_number, last_session}
use Rattle.desk_words.specs.declared.own_things.Authorised.{Authorised}
use Rattle.desk_words.specs.declared.own_things.PollGoverned.{PollGoverned}
use Rattle.desk_words.specs.declared.own_things.Received.{Received}
use Rattle.desk_words.specs.declared.records.Meeting.{Meeting}
use Rattle.desk_words.specs.declared.records.Poll.{Poll}
use Rattle.desk_words.specs.declared.request.NewCast.{NewCast}
use Rattle.desk_words.specs.declared.request.PartyRequest.{PartyRequest}
use Rattle.desk_words.specs.declared.request.PartyRequest.TheVariants.{Mine, Demand, Cast, Instructed}
use Rattle.caller_view.specs.PartyRulings.{party_ruling, ruling_for}
use Rattle.caller_view.specs.AttendanceRulings.{demand_ruling, governs_any, is_present, represents}
use Rattle.caller_view.specs.CastRulings.{cast_ruling, governed_on, has_cast_enough, instructed_ruling}
use Rattle.proxy_rules.specs.Cutoffs.{is_late_poll}
use Rattle.proxy_rules.specs.Instructions.{allows, instructed_on}
use Rattle.proxy_rules.specs.Uses.{vote_on}
use Rattle.party_views.proofs.FindLemmas.{find-filter}
use Rattle.party_views.specs.OwnCasts.{count_on, counted_on}
use Rattle.party_views.specs.declared.own_rows.OwnCasts.{OwnCasts}
use Rattle.party_views.specs.RowsRead.{authorised_read, for_poll, is_instructed_by, own_read, received_read, row_read}
use Rattle.caller_view.specs.Rights.{forbids, governed_acts, governed_for, governed_late, governed_votes, governs_at, instructs, is_against, is_governed, is_not_own, may_vote_for, meets, no_runs, some_fail}
use Rattle.party_views.specs.OwnViews.{holds_as_individual, nothing_of}
use Rattle.party_views.specs.declared.views.OwnView.{OwnView}
use Rattle.party_views.specs.Public.{PublicRecord}

-- what passes a test passes it again
pub filter-again : {X : Type 0} (test : X → Bool) (xs : List X) → filter test (filter test xs) ≡ filter test xs
filter-again test [] = refl
filter-again test (x ∷ xs) =
    (elim (test x) as (λ b. test x ≡ b → filter test (cond b (x ∷ filter test xs) (filter test xs)) ≡ cond b (x ∷ filter test xs) (filter test xs)) [
      | true ↦ λ passes. ap (λ b. cond b (x ∷ filter test (filter test xs)) (filter test (filter test xs))) passes ∙ ap (λ l. x ∷ l) (filter-again test xs)
      | false ↦ λ fails. filter-again test xs
    ]) refl

-- some pass among those that are kept, where all that pass are kept
any-filter : {X : Type 0} (keeps passes : X → Bool) (xs : List X) → ((x : X) → (keeps x && passes x) ≡ passes x) → list_any passes (filter keeps xs) ≡ list_any passes xs
any-filter keeps passes [] preserved = refl
any-filter keeps passes (x ∷ xs) preserved =
    (elim (keeps x) as (λ b. keeps x ≡ b → list_any passes (cond b (x ∷ filter keeps xs) (filter keeps xs)) ≡ (passes x || list_any passes xs)) [
      | true ↦ λ keep. ap (λ b. passes x || b) (any-filter keeps passes xs preserved)
      | false ↦ λ leave.
          let fails : passes x ≡ false = sym (preserved x) ∙ ap (λ b. b && passes x) leave in
          any-filter keeps passes xs preserved ∙ ap (λ b. b || list_any passes xs) (sym fails)
    ]) refl

-- some pass among what is made of them, where what is made of each passes alike
any-map : {X : Type 0} (passes : X → Bool) (make : X → X) (xs : List X) → ((x : X) → passes (make x) ≡ passes x) → list_any passes (map make xs) ≡ list_any passes xs
any-map passes make [] alike = refl
any-map passes make (x ∷ xs) alike = ap (λ b. b || list_any passes (map make xs)) (alike x) ∙ ap (λ b. passes x || b) (any-map passes make xs alike)

and-again : (a b : Bool) → (a && (a && b)) ≡ (a && b)
and-again true b = refl
and-again false b = refl

and-twice : (a b c : Bool) → (a && ((a && b) && c)) ≡ ((a && b) && c)
and-twice true b c = refl
and-twice false b c = refl

-- the poll that is found on a resolution is of that resolution
found-on : (polls : List Poll) (resolution : ℕ) (poll : Poll) → poll_on polls resolution ≡ Some poll → poll.resolution ≡ resolution
found-on polls resolution poll there = eqb-true poll.resolution resolution (found-passes (λ (p : Poll). p.resolution == resolution) polls poll there)

-- what an appointment governs for a late poll is read from that poll
late-alike : (resolution number : ℕ) (r : Received) → number ≡ resolution → governed_late (for_poll resolution r).polls number ≡ governed_late r.polls number
late-alike resolution number r is =
    subst (λ (n : ℕ). governed_late (for_poll n r).polls number ≡ governed_late r.polls number) is
    (ap (λ found. option_map_or (λ (p : PollGoverned). p.governs) found []) (find-filter (λ (p : PollGoverned). p.resolution == number) r.polls))

governed-found : (closed : List ℕ) (resolution session : ℕ) (r : Received) (found : Option Poll) → ((poll : Poll) → found ≡ Some poll → poll.resolution ≡ resolution)
    → governed_for closed (vote_on session found) (for_poll resolution r) ≡ governed_for closed (vote_on session found) r
governed-found closed resolution session r None on = refl
governed-found closed resolution session r (Some poll) on =
    ap (λ runs. cond (is_late_poll closed poll) runs (governed_votes poll.session r)) (late-alike resolution poll.resolution r (on poll refl))

-- ---- rights

-- of the member's appointments some pass where some of all do, if only the member's can
any-read : (new : NewCast) (passes : Received → Bool) (received : List Received)
    → ((r : Received) → passes (for_poll new.resolution r) ≡ passes r) → ((r : Received) → (same_name r.member new.member && passes r) ≡ passes r)
    → list_any passes (received_read new received Proxy) ≡ list_any passes received
any-read new passes received alike members =
    any-map passes (for_poll new.resolution) (filter (λ (r : Received). same_name r.member new.member) received) alike
    ∙ any-filter (λ (r : Received). same_name r.member new.member) passes received members

may-alike : (own : OwnView) (new : NewCast) (capacity : Capacity) (casts : OwnCasts)
    → may_vote_for (record (nothing_of own.party) { row = row_read own.row capacity; received = received_read new own.received capacity; authorised = authorised_read new own.authorised capacity; casts = casts }) new.member capacity
    ≡ may_vote_for own new.member capacity
may-alike own new Member casts = refl
may-alike own new Rep casts = ap (λ found. nat_lt 0 (option_map_or (λ (a : Authorised). a.shares) found 0)) (find-filter (λ (a : Authorised). same_name a.corporation new.member) own.authorised)
may-alike own new Proxy casts = refl

module _ (public : PublicRecord) (meeting : Meeting) where
  governed-alike : (resolution : ℕ) (r : Received) → governed_on public meeting resolution (for_poll resolution r) ≡ governed_on public meeting resolution r
  governed-alike resolution r = governed-found public.closed resolution (last_number meeting) r (poll_on public.polls resolution) (found-on public.polls resolution)

  governs-alike : (new : NewCast) (place : ℕ) (r : Received) → governs_at (governed_on public meeting new.resolution) new place (for_poll new.resolution r) ≡ governs_at (governed_on public meeting new.resolution) new place r
  governs-alike new place r = ap (λ runs. same_name r.member new.member && list_any (λ (run : Places). holds run place) runs) (governed-alike new.resolution r)

  forbids-alike : (new : NewCast) (r : Received) → forbids (governed_on public meeting new.resolution) new (for_poll new.resolution r) ≡ forbids (governed_on public meeting new.resolution) new r
  forbids-alike new r =
      ap (λ runs. same_name r.member new.member && not (allows (instructed_on new.resolution r.instructions) new.way) && list_any (meets new.from new.to) runs)
      (governed-alike new.resolution r)

  instructs-alike : (resolution : ℕ) (r : Received) → instructs (governed_on public meeting resolution) resolution (for_poll resolution r) ≡ instructs (governed_on public meeting resolution) resolution r
  instructs-alike resolution r = ap (λ runs. is_some (instructed_on resolution r.instructions) && not (no_runs runs)) (governed-alike resolution r)

  own-alike : (own : OwnView) (new : NewCast) (capacity : Capacity) (casts : OwnCasts)
      → is_not_own (record (nothing_of own.party) { row = row_read own.row capacity; received = received_read new own.received capacity; authorised = authorised_read new own.authorised capacity; casts = casts }) (governed_on public meeting new.resolution) new capacity
      ≡ is_not_own own (governed_on public meeting new.resolution) new capacity
  own-alike own new Member casts = refl
  own-alike own new Rep casts = ap (λ found. nat_lt (option_map_or (λ (a : Authorised). a.shares) found 0) new.to) (find-filter (λ (a : Authorised). same_name a.corporation new.member) own.authorised)
  own-alike own new Proxy casts =
      let governed : (place : ℕ) → is_governed (received_read new own.received Proxy) (governed_on public meeting new.resolution) new place ≡ is_governed own.received (governed_on public meeting new.resolution) new place =
      λ place. any-read new (governs_at (governed_on public meeting new.resolution) new place) own.received (governs-alike new place)
      (λ r. and-again (same_name r.member new.member) (list_any (λ (run : Places). holds run place) (governed_on public meeting new.resolution r))) in
      λ i. some_fail (λ place. governed place i) new.from new.to

  against-alike : (own : OwnView) (new : NewCast) (capacity : Capacity) (casts : OwnCasts)
      → is_against (record (nothing_of own.party) { row = row_read own.row capacity; received = received_read new own.received capacity; authorised = authorised_read new own.authorised capacity; casts = casts }) (governed_on public meeting new.resolution) new capacity
      ≡ is_against own (governed_on public meeting new.resolution) new capacity
  against-alike own new Member casts = refl
  against-alike own new Rep casts = refl
  against-alike own new Proxy casts =
      any-read new (forbids (governed_on public meeting new.resolution) new) own.received (forbids-alike new)
      (λ r. and-twice (same_name r.member new.member) (not (allows (instructed_on new.resolution r.instructions) new.way))
      (list_any (meets new.from new.to) (governed_on public meeting new.resolution r)))

-- the votes that were counted on a resolution are as many there
enough-alike : (own : OwnView) (resolution : ℕ) → nat_le MOST_CASTS (count_on (counted_on resolution own.casts) resolution) ≡ has_cast_enough own resolution
enough-alike own resolution = ap (λ b. nat_le MOST_CASTS (cond b (count_on own.casts resolution) 0)) (eq-eqb resolution resolution refl)

-- the cases of a vote, by what they ask of the own things
abbrev cast_cases_by : PublicRecord → Meeting → NewCast → Bool → Bool → Bool → Bool → List Case
cast_cases_by public meeting new enough may not_own against =
    let poll = poll_on public.polls new.resolution in
    no_resolution meeting new.resolution
    ∷ record { refusal = BadRange; holds = not (is_range new.from new.to) }
    ∷ record { refusal = TooMany; holds = enough }
    ∷ record { refusal = NoRegister; holds = not meeting.loaded }
    ∷ record { refusal = NoRight; holds = not may }
    ∷ record { refusal = NoPoll; holds = is_none poll }
    ∷ record { refusal = PollNotOpen; holds = there_is is_waiting poll }
    ∷ record { refusal = PollClosed; holds = there_is is_closed poll }
    ∷ record { refusal = NotYours; holds = not_own }
    ∷ record { refusal = AgainstInstruction; holds = against }
    ∷ []

cast-alike : (public : PublicRecord) (meeting : Meeting) (own : OwnView) (now : ℕ) (new : NewCast)
    → cast_ruling public meeting (own_read (Cast new) own) now new ≡ cast_ruling public meeting own now new
cast-alike public meeting own now new =
    let casts = counted_on new.resolution own.casts in
    λ i. record {
      cases = cast_cases_by public meeting new (enough-alike own new.resolution i) (may-alike own new new.capacity casts i)
          (own-alike public meeting own new new.capacity casts i) (against-alike public meeting own new new.capacity casts i);
      accepted = (cast_ruling public meeting own now new).accepted;
    }

-- who holds as an individual may demand, whatever others gave it
may-unread : (meeting : Meeting) (own : OwnView) (individual : Bool)
    → (individual || list_any (λ (a : Authorised). nat_lt 0 a.shares) (cond individual [] own.authorised)
    || list_any (λ (r : Received). not (no_runs (governed_acts (last_number meeting) r))) (cond individual [] own.received))
    ≡ (individual || represents own || governs_any meeting own)
may-unread meeting own true = refl
may-unread meeting own false = refl

-- the cases of a demand, by whether the party may make one
abbrev demand_cases_by : PublicRecord → Meeting → OwnView → ℕ → Bool → List Case
demand_cases_by public meeting own resolution may =
    no_resolution meeting resolution
    ∷ record { refusal = NoRegister; holds = not meeting.loaded }
    ∷ record { refusal = NotOpened; holds = not (is_opened (last_session meeting)) }
    ∷ record { refusal = NotPresent; holds = not (is_present meeting own) }
    ∷ record { refusal = NoRight; holds = not may }
    ∷ record { refusal = PollOrdered; holds = is_some (poll_on public.polls resolution) }
    ∷ []

demand-alike : (public : PublicRecord) (meeting : Meeting) (own : OwnView) (now resolution : ℕ)
    → demand_ruling public meeting (own_read (Demand resolution) own) now resolution ≡ demand_ruling public meeting own now resolution
demand-alike public meeting own now resolution =
    λ i. record {
      cases = demand_cases_by public meeting own resolution (may-unread meeting own (holds_as_individual own.row) i);
      accepted = (demand_ruling public meeting own now resolution).accepted;
    }

abbrev instructed_cases_by : PublicRecord → Meeting → ℕ → Bool → Bool → List Case
instructed_cases_by public meeting resolution enough uninstructed =
    let poll = poll_on public.polls resolution in
    no_resolution meeting resolution
    ∷ record { refusal = TooMany; holds = enough }
    ∷ record { refusal = NoRegister; holds = not meeting.loaded }
    ∷ record { refusal = NoPoll; holds = is_none poll }
    ∷ record { refusal = PollNotOpen; holds = there_is is_waiting poll }
    ∷ record { refusal = PollClosed; holds = there_is is_closed poll }
    ∷ record { refusal = NotYours; holds = uninstructed }
    ∷ []

-- some instruct for the poll where some of all do
any-instructing : (public : PublicRecord) (meeting : Meeting) (resolution : ℕ) (received : List Received)
    → list_any (instructs (governed_on public meeting resolution) resolution) (map (for_poll resolution) (filter (is_instructed_by resolution) received))
    ≡ list_any (instructs (governed_on public meeting resolution) resolution) received
any-instructing public meeting resolution received =
    let governs = governed_on public meeting resolution in
    any-map (instructs governs resolution) (for_poll resolution) (filter (is_instructed_by resolution) received) (instructs-alike public meeting resolution)
    ∙ any-filter (is_instructed_by resolution) (instructs governs resolution) received (λ r. and-again (is_instructed_by resolution r) (not (no_runs (governs r))))

instructed-alike : (public : PublicRecord) (meeting : Meeting) (own : OwnView) (now resolution : ℕ)
    → instructed_ruling public meeting (own_read (Instructed resolution) own) now resolution ≡ instructed_ruling public meeting own now resolution
instructed-alike public meeting own now resolution =
    λ i. record {
      cases = instructed_cases_by public meeting resolution (enough-alike own resolution i)
          (not (any-instructing public meeting resolution own.received i));
      accepted = (instructed_ruling public meeting own now resolution).accepted;
    }

-- the others change no ruling
ruled_alike : (public : PublicRecord) (own : OwnView) (now : ℕ) (asked : PartyRequest) (meeting : Meeting)
    → ruling_for public (own_read asked own) now asked meeting ≡ ruling_for public own now asked meeting
ruled_alike public own now Mine meeting = refl
ruled_alike public own now (Demand resolution) meeting = demand-alike public meeting own now resolution
ruled_alike public own now (Cast new) meeting = cast-alike public meeting own now new
ruled_alike public own now (Instructed resolution) meeting = instructed-alike public meeting own now resolution
ruled_alike public own now asked meeting = refl

pub ruling-own_read : (public : PublicRecord) (own : OwnView) (now : ℕ) (asked : PartyRequest) → party_ruling public (own_read asked own) now asked ≡ party_ruling public own now asked
ruling-own_read public own now asked = λ i. in_found public.meeting (λ meeting. ruled_alike public own now asked meeting i)
