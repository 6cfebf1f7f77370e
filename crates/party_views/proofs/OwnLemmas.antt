-- What of a party's own things the answer to a request reads is made of what it reads of the rows.
use Rattle.std.proofs.Common.{◌≡◌, ℕ, Bool, true, false, ◌||◌, cond, List, [], ◌∷◌, find, filter, map, Some, refl, sym, ap, subst, ◌∙◌, true≢false}
use Rattle.std.specs.Prelude.{◌==◌, reverse, Option}
use Rattle.std.specs.List.{AllByRecursion, list_any}
use Rattle.std.specs.Option.{option_map_or}
use Rattle.std.proofs.lemmas.Simd.{map-map}
use Rattle.vocabulary.specs.Names.{same_name}
use Rattle.vocabulary.specs.declared.kinds.Capacity.{Capacity}
use Rattle.vocabulary.specs.declared.kinds.Capacity.TheVariants.{Member, Rep, Proxy}
use Rattle.desk_words.proofs.WordRowLemmas.{same_name-refl, same_name-true}
use Rattle.desk_words.specs.declared.own_things.Authorised.{Authorised}
use Rattle.desk_words.specs.declared.own_things.PollGoverned.{PollGoverned}
use Rattle.desk_words.specs.declared.own_things.Received.{Received}
use Rattle.desk_words.specs.declared.records.Appointment.{Appointment}
use Rattle.desk_words.specs.declared.records.Meeting.{Meeting}
use Rattle.desk_words.specs.declared.records.Poll.{Poll}
use Rattle.desk_words.specs.declared.request.NewCast.{NewCast}
use Rattle.desk_words.specs.declared.request.PartyRequest.{PartyRequest}
use Rattle.desk_words.specs.declared.request.PartyRequest.TheVariants.{Mine, Cast, Instructed}
use Rattle.proxy_rules.specs.Cutoffs.{cutoffs_of, is_late_poll}
use Rattle.proxy_rules.specs.Holdings.{is_given_by}
use Rattle.proxy_rules.specs.Uses as uses
use Rattle.proxy_rules.specs.declared.meeting_records.Cutoffs.{Cutoffs}
use Rattle.proxy_rules.proofs.ProxyListLemmas.{reverse-filter}
use Rattle.party_views.specs.OwnCasts.{counted_on, no_casts}
use Rattle.party_views.specs.OwnViews.{authorised_in_rows, governed_by, governed_in_holding, holds_as_individual, known_to_proxy, nothing_of, own_by, poll_governed, received_by, rows_by, session_governed}
use Rattle.party_views.specs.PartyRows.{no_own_rows}
use Rattle.party_views.specs.SessionLists.{each_session}
use Rattle.party_views.specs.declared.reads.Reads.{Reads}
use Rattle.party_views.specs.declared.reads.Reads.TheVariants.{Standing, Vote, AsInstructed}
use Rattle.party_views.specs.RowsRead.{appointments_read, authorised_read, authorities_read, for_poll, gave_one_of, is_instructed_by, is_instructing, members_read, own_part, own_read, polls_part, polls_on, polls_read, reads_of, resolution_read, received_read, row_read, own_rows_part, own_rows_read}
use Rattle.party_views.specs.declared.own_rows.AuthorityRows.{AuthorityRows}
use Rattle.party_views.specs.declared.own_rows.OwnCasts.TheVariants.{Counted}
use Rattle.party_views.specs.declared.own_rows.MemberRows.{MemberRows}
use Rattle.party_views.specs.declared.own_rows.OwnRows.{OwnRows}
use Rattle.party_views.proofs.FindLemmas.{find-filter}

-- what is made of those that pass
pub filter-map : {X Y : Type 0} (test : Y → Bool) (make : X → Y) (xs : List X) → filter test (map make xs) ≡ map make (filter (λ x. test (make x)) xs)
filter-map test make [] = refl
filter-map test make (x ∷ xs) =
    elim (test (make x)) as (λ b. cond b (make x ∷ filter test (map make xs)) (filter test (map make xs)) ≡ map make (cond b (x ∷ filter (λ x. test (make x)) xs) (filter (λ x. test (make x)) xs))) [
      | true ↦ ap (λ l. make x ∷ l) (filter-map test make xs)
      | false ↦ filter-map test make xs
    ]

-- two tests in either order
pub filter-swap : {X : Type 0} (one other : X → Bool) (xs : List X) → filter one (filter other xs) ≡ filter other (filter one xs)
filter-swap one other [] = refl
filter-swap one other (x ∷ xs) =
    (elim (one x) as (λ a. one x ≡ a → filter one (filter other (x ∷ xs)) ≡ filter other (cond a (x ∷ filter one xs) (filter one xs))) [
      | true ↦ λ passes. (elim (other x) as (λ b. other x ≡ b → filter one (cond b (x ∷ filter other xs) (filter other xs)) ≡ cond b (x ∷ filter other (filter one xs)) (filter other (filter one xs))) [
        | true ↦ λ both. ap (λ a. cond a (x ∷ filter one (filter other xs)) (filter one (filter other xs))) passes ∙ ap (λ l. x ∷ l) (filter-swap one other xs)
        | false ↦ λ fails. filter-swap one other xs
      ]) refl
      | false ↦ λ fails. (elim (other x) as (λ b. other x ≡ b → filter one (cond b (x ∷ filter other xs) (filter other xs)) ≡ filter other (filter one xs)) [
        | true ↦ λ both. ap (λ a. cond a (x ∷ filter one (filter other xs)) (filter one (filter other xs))) fails ∙ filter-swap one other xs
        | false ↦ λ neither. filter-swap one other xs
      ]) refl
    ]) refl

-- what is the same for each value that passes makes the same list of those
map-passing : {X Y : Type 0} (f g : X → Y) (test : X → Bool) (xs : List X) → ((x : X) → test x ≡ true → f x ≡ g x) → map f (filter test xs) ≡ map g (filter test xs)
map-passing f g test [] same = refl
map-passing f g test (x ∷ xs) same =
    let tail : map f (filter test xs) ≡ map g (filter test xs) = map-passing f g test xs same in
    (elim (test x) as (λ b. test x ≡ b → map f (cond b (x ∷ filter test xs) (filter test xs)) ≡ map g (cond b (x ∷ filter test xs) (filter test xs))) [
      | true ↦ λ e. let head : f x ≡ g x = same x e in λ i. head i ∷ tail i
      | false ↦ λ e. tail
    ]) refl

-- the rows are those of the member
abbrev of_member : List ℕ → MemberRows → Bool
of_member member rows = same_name rows.member member

-- what an appointment of a member governs is read from the member's rows
governed-by_member : (members : List MemberRows) (cutoffs : Cutoffs) (member name : List ℕ) (number : ℕ) → same_name name member ≡ true
    → governed_by (filter (of_member member) members) cutoffs name number ≡ governed_by members cutoffs name number
governed-by_member members cutoffs member name number same =
    let found : rows_by (filter (of_member member) members) member ≡ rows_by members member =
    ap (find (of_member member)) (reverse-filter (of_member member) members) ∙ find-filter (of_member member) (reverse members) in
    subst (λ (n : List ℕ). governed_by (filter (of_member member) members) cutoffs n number ≡ governed_by members cutoffs n number) (sym (same_name-true name member same))
    (ap (λ (o : Option MemberRows). option_map_or (λ (rows : MemberRows). governed_in_holding cutoffs rows.holding number) o []) found)

-- what is found stays where what passes is left
found-left : {X : Type 0} (test leaves : X → Bool) (xs : List X) → ((x : X) → test x ≡ true → leaves x ≡ true) → find test (filter leaves xs) ≡ find test xs
found-left test leaves [] so = refl
found-left test leaves (x ∷ xs) so =
    let rest = found-left test leaves xs so in
    (elim (leaves x) as (λ b. leaves x ≡ b → find test (cond b (x ∷ filter leaves xs) (filter leaves xs)) ≡ cond (test x) (Some x) (find test xs)) [
      | true ↦ λ _. ap (λ o. cond (test x) (Some x) o) rest
      | false ↦ λ out. (elim (test x) as (λ c. test x ≡ c → find test (filter leaves xs) ≡ cond c (Some x) (find test xs)) [
        | true ↦ λ passes. absurd (true≢false (sym (so x passes) ∙ out))
        | false ↦ λ _. rest
      ]) refl
    ]) refl

-- what an appointment of a member who gave one of some governs is read from the rows of those who did
governed-by_givers : (members : List MemberRows) (cutoffs : Cutoffs) (given : List Appointment) (member : List ℕ) (number : ℕ) → list_any (is_given_by member) given ≡ true
    → governed_by (filter (gave_one_of given) members) cutoffs member number ≡ governed_by members cutoffs member number
governed-by_givers members cutoffs given member number gave =
    let so : (rows : MemberRows) → of_member member rows ≡ true → gave_one_of given rows ≡ true =
    λ rows is. ap (λ (n : List ℕ). list_any (is_given_by n) given) (same_name-true rows.member member is) ∙ gave in
    ap (λ (o : Option MemberRows). option_map_or (λ (rows : MemberRows). governed_in_holding cutoffs rows.holding number) o [])
    (ap (find (of_member member)) (reverse-filter (gave_one_of given) members) ∙ found-left (of_member member) (gave_one_of given) (reverse members) so)

-- of a list of appointments each member gave one
gives : (all given : List Appointment) → ((member : List ℕ) → list_any (is_given_by member) given ≡ true → list_any (is_given_by member) all ≡ true) → (P : Appointment → Type 0)
    → ((a : Appointment) → list_any (is_given_by a.member) all ≡ true → P a) → AllByRecursion P given
gives all [] among P each = tt
gives all (a ∷ given) among P each = (
  each a (among a.member (ap (λ b. b || list_any (is_given_by a.member) given) (same_name-refl a.member))),
  gives all given (λ member is. among member (behind (is_given_by member a) (list_any (is_given_by member) given) is)) P each,
)
  where
    behind : (a b : Bool) → b ≡ true → (a || b) ≡ true
    behind true b is = refl
    behind false b is = is

each-of_all : (P : Appointment → Type 0) (given : List Appointment) → ((a : Appointment) → list_any (is_given_by a.member) given ≡ true → P a) → AllByRecursion P given
each-of_all P given each = gives given given (λ member is. is) P each

-- what is the same for each makes the same list
map-each : {X Y : Type 0} (f g : X → Y) (xs : List X) → AllByRecursion (λ x. f x ≡ g x) xs → map f xs ≡ map g xs
map-each f g [] same = refl
map-each f g (x ∷ xs) same = let tail = map-each f g xs same.1 in let head = same.0 in λ i. head i ∷ tail i

module _ (members : List MemberRows) (closed : List ℕ) (meeting : Meeting) (polls : List Poll) (now : ℕ) where
  -- what a party knows of an appointment of a member is read from the member's rows
  known-by_member : (member : List ℕ) (on : List Poll) (a : Appointment) → is_given_by member a ≡ true
      → received_by (filter (of_member member) members) closed meeting on now a ≡ received_by members closed meeting on now a
  known-by_member member on a own =
      let sessions : each_session (session_governed (filter (of_member member) members) closed meeting now a.member a.number) meeting
      ≡ each_session (session_governed members closed meeting now a.member a.number) meeting =
      λ i. each_session (λ session. record {
        acts = governed-by_member members (cutoffs_of meeting (uses.Acts session) closed now) member a.member a.number own i;
        votes = governed-by_member members (cutoffs_of meeting (uses.Votes session) closed now) member a.member a.number own i;
      }) meeting in
      let late : map (poll_governed (filter (of_member member) members) closed meeting now a.member a.number) (filter (is_late_poll closed) on)
      ≡ map (poll_governed members closed meeting now a.member a.number) (filter (is_late_poll closed) on) =
      ap (λ f. map f (filter (is_late_poll closed) on))
      (λ i (poll : Poll). record { resolution = poll.resolution; governs = governed-by_member members (cutoffs_of meeting (uses.Vote poll) closed now) member a.member a.number own i }) in
      λ i. known_to_proxy a (sessions i) (late i)

  -- what an appointment governs for the poll on the resolution
  for_poll-alike : (resolution : ℕ) (a : Appointment)
      → received_by members closed meeting (polls_on resolution polls) now a ≡ for_poll resolution (received_by members closed meeting polls now a)
  for_poll-alike resolution a =
      ap (λ late. known_to_proxy a (each_session (session_governed members closed meeting now a.member a.number) meeting) late)
      (ap (map (poll_governed members closed meeting now a.member a.number)) (filter-swap (is_late_poll closed) (λ (p : Poll). p.resolution == resolution) polls)
      ∙ sym (filter-map (λ (p : PollGoverned). p.resolution == resolution) (poll_governed members closed meeting now a.member a.number) (filter (is_late_poll closed) polls)))

  -- and so of each of them
  all_for_poll : (resolution : ℕ) (given : List Appointment)
      → map (received_by members closed meeting (polls_on resolution polls) now) given ≡ map (for_poll resolution) (map (received_by members closed meeting polls now) given)
  all_for_poll resolution given =
      (λ i. map (λ a. for_poll-alike resolution a i) given) ∙ sym (map-map (for_poll resolution) (received_by members closed meeting polls now) given)

  -- what an appointment governs is read from the rows of those who gave one of some, where its member did
  known-by_givers : (given : List Appointment) (on : List Poll) (a : Appointment) → list_any (is_given_by a.member) given ≡ true
      → received_by (filter (gave_one_of given) members) closed meeting on now a ≡ received_by members closed meeting on now a
  known-by_givers given on a gave =
      let governed = λ (cutoffs : Cutoffs). governed-by_givers members cutoffs given a.member a.number gave in
      let sessions : each_session (session_governed (filter (gave_one_of given) members) closed meeting now a.member a.number) meeting
      ≡ each_session (session_governed members closed meeting now a.member a.number) meeting =
      λ i. each_session (λ session. record {
        acts = governed (cutoffs_of meeting (uses.Acts session) closed now) i;
        votes = governed (cutoffs_of meeting (uses.Votes session) closed now) i;
      }) meeting in
      let late : map (poll_governed (filter (gave_one_of given) members) closed meeting now a.member a.number) (filter (is_late_poll closed) on)
      ≡ map (poll_governed members closed meeting now a.member a.number) (filter (is_late_poll closed) on) =
      ap (λ f. map f (filter (is_late_poll closed) on))
      (λ i (poll : Poll). record { resolution = poll.resolution; governs = governed (cutoffs_of meeting (uses.Vote poll) closed now) i }) in
      λ i. known_to_proxy a (sessions i) (late i)

  -- what votes as instructed read of the appointments
  received-instructing : (resolution : ℕ) (received : List Appointment)
      → map (received_by (filter (gave_one_of (filter (is_instructing resolution) received)) members) closed meeting (polls_on resolution polls) now) (filter (is_instructing resolution) received)
      ≡ map (for_poll resolution) (filter (is_instructed_by resolution) (map (received_by members closed meeting polls now) received))
  received-instructing resolution received =
      let given = filter (is_instructing resolution) received in
      let on = polls_on resolution polls in
      map-each (received_by (filter (gave_one_of given) members) closed meeting on now) (received_by members closed meeting on now) given
      (each-of_all (λ a. received_by (filter (gave_one_of given) members) closed meeting on now a ≡ received_by members closed meeting on now a) given (known-by_givers given on))
      ∙ all_for_poll resolution given
      ∙ ap (map (for_poll resolution)) (sym (filter-map (is_instructed_by resolution) (received_by members closed meeting polls now) received))

  -- what a vote reads of the appointments
  received-read : (new : NewCast) (capacity : Capacity) (received : List Appointment)
      → map (received_by (members_read new members capacity) closed meeting (polls_on new.resolution polls) now) (appointments_read new received capacity)
      ≡ received_read new (map (received_by members closed meeting polls now) received) capacity
  received-read new Member received = refl
  received-read new Rep received = refl
  received-read new Proxy received =
      let own = is_given_by new.member in
      map-passing (received_by (filter (of_member new.member) members) closed meeting (polls_on new.resolution polls) now)
      (received_by members closed meeting (polls_on new.resolution polls) now) own received (known-by_member new.member (polls_on new.resolution polls))
      ∙ all_for_poll new.resolution (filter own received)
      ∙ ap (map (for_poll new.resolution)) (sym (filter-map (λ (r : Received). same_name r.member new.member) (received_by members closed meeting polls now) received))

-- what a vote reads of the authorities
authorised-read : (new : NewCast) (capacity : Capacity) (authorised : List AuthorityRows)
    → map authorised_in_rows (authorities_read new authorised capacity) ≡ authorised_read new (map authorised_in_rows authorised) capacity
authorised-read new Member authorised = refl
authorised-read new Rep authorised = sym (filter-map (λ (a : Authorised). same_name a.corporation new.member) authorised_in_rows authorised)
authorised-read new Proxy authorised = refl

-- what is made of nothing, or of a list
made-unless : {X Y : Type 0} (holds : Bool) (make : X → Y) (xs : List X) → map make (cond holds [] xs) ≡ cond holds [] (map make xs)
made-unless true make xs = refl
made-unless false make xs = refl

-- what a demand reads of the appointments
received-standing : (holds : Bool) (members : List MemberRows) (closed : List ℕ) (meeting : Meeting) (polls : List Poll) (now : ℕ) (received : List Appointment)
    → map (received_by (cond holds [] members) closed meeting polls now) (cond holds [] received) ≡ cond holds [] (map (received_by members closed meeting polls now) received)
received-standing true members closed meeting polls now received = refl
received-standing false members closed meeting polls now received = refl

-- the own things that are read, from the rows that are read
own-of-part : (reads : Reads) (all : OwnRows) (closed : List ℕ) (meeting : Meeting) (polls : List Poll) (now : ℕ)
    → own_by (own_rows_part reads all) closed meeting (polls_part reads polls) now ≡ own_part reads (own_by all closed meeting polls now)
own-of-part (Vote new) all closed meeting polls now =
    let received = received-read all.members closed meeting polls now new new.capacity all.received in
    let authorised = authorised-read new new.capacity all.authorised in
    λ i. record {
      party = all.party;
      row = row_read all.row new.capacity;
      given = [];
      given_count = 0;
      persons = [];
      received = received i;
      authorised = authorised i;
      presences = [];
      demands = [];
      casts = counted_on new.resolution all.casts;
    }
own-of-part Standing all closed meeting polls now =
    let received = received-standing (holds_as_individual all.row) all.members closed meeting polls now all.received in
    let authorised = made-unless (holds_as_individual all.row) authorised_in_rows all.authorised in
    λ i. record (own_part Standing (own_by all closed meeting polls now)) { received = received i; authorised = authorised i }
own-of-part (AsInstructed resolution) all closed meeting polls now =
    let received = received-instructing all.members closed meeting polls now resolution all.received in
    λ i. record (own_part (AsInstructed resolution) (own_by all closed meeting polls now)) { received = received i }
own-of-part other all closed meeting polls now = refl

-- the own things that an answer reads, from the rows that it reads
pub own-read : (asked : PartyRequest) (all : OwnRows) (closed : List ℕ) (meeting : Meeting) (polls : List Poll) (now : ℕ)
    → own_by (own_rows_read asked all) closed meeting (polls_read asked polls) now ≡ own_read asked (own_by all closed meeting polls now)
own-read asked = own-of-part (reads_of asked)

-- and where there is nothing, nothing is read
pub nothing-read : (party : List ℕ) (asked : PartyRequest) → record (nothing_of party) { casts = no_casts (resolution_read (reads_of asked)) } ≡ own_read asked (nothing_of party)
nothing-read party Mine = refl
nothing-read party (Cast new) = none-in new.capacity
  where
    none-in : (capacity : Capacity) → record (nothing_of party) { casts = Counted new.resolution 0 } ≡ own_part (Vote (record new { capacity = capacity })) (nothing_of party)
    none-in Member = refl
    none-in Rep = refl
    none-in Proxy = refl
nothing-read party (Instructed resolution) = refl
nothing-read party asked = refl

-- of the rows too
pub no_rows-read : (party : List ℕ) (asked : PartyRequest) → record (no_own_rows party) { casts = no_casts (resolution_read (reads_of asked)) } ≡ own_rows_read asked (no_own_rows party)
no_rows-read party Mine = refl
no_rows-read party (Cast new) = none-in new.capacity
  where
    none-in : (capacity : Capacity) → record (no_own_rows party) { casts = Counted new.resolution 0 } ≡ own_rows_part (Vote (record new { capacity = capacity })) (no_own_rows party)
    none-in Member = refl
    none-in Rep = refl
    none-in Proxy = refl
no_rows-read party (Instructed resolution) = refl
no_rows-read party asked = refl
