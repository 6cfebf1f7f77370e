-- The right to demand a poll, capacity by capacity.
use Rattle.std.proofs.Common.{◌≡◌, ℕ, Bool, true, false, not, ◌&&◌, ◌||◌, cond, List, [], ◌∷◌, ◌++◌, map, filter, length, refl, sym, ap, ◌∙◌}
use Rattle.std.specs.Prelude.{nat_le, nat_lt, Option, Some, None}
use Rattle.std.specs.List.{list_all, list_any, flat_map}
use Rattle.std.specs.Option.{option_map_or}
use Rattle.std.proofs.lemmas.List.Concat.{flat_map-cons}
use Rattle.seq.proofs.Filtered.{any-filter}
use Rattle.std.proofs.Math.Bool.{and_comm}
use Rattle.std.proofs.lemmas.Bool.{leb-true, lt-ltb, or_right}
use Rattle.std.specs.Cmp.{first_so, second_so}
use Rattle.vocabulary.specs.Names.{same_name}
use Rattle.vocabulary.specs.declared.kinds.Capacity.{Capacity}
use Rattle.vocabulary.specs.declared.kinds.Capacity.TheVariants.{Member, Rep, Proxy}
use Rattle.vocabulary.specs.declared.kinds.HolderKind.{HolderKind}
use Rattle.vocabulary.specs.declared.kinds.HolderKind.TheVariants.{Individual, Corporation, Treasury}
use Rattle.desk_words.specs.SortedLists.{are_resolutions}
use Rattle.desk_words.specs.Office.{are_numbered_after, implies, is_appointment, is_loaded_right, is_meeting, no_rows, are_rows}
use Rattle.desk_words.specs.Registers.{is_holding, is_register}
use Rattle.desk_words.specs.Sessions.{are_sessions, is_opened, last_number}
use Rattle.desk_words.specs.declared.office.MeetingLists.{MeetingLists}
use Rattle.desk_words.specs.declared.records.Appointment.{Appointment}
use Rattle.desk_words.specs.declared.records.Authority.{Authority}
use Rattle.desk_words.specs.declared.records.RegisterRow.{RegisterRow}
use Rattle.desk_words.specs.declared.own_things.Authorised.{Authorised}
use Rattle.desk_words.specs.declared.own_things.Received.{Received}
use Rattle.proxy_rules.specs.Cutoffs.{cutoffs_of}
use Rattle.proxy_rules.specs.Uses.{Acts}
use Rattle.proxy_rules.specs.Governing.{governed_in, governing_in, governs}
use Rattle.proxy_rules.specs.Holdings.{are_tags, holding_by, holding_of, holding_with, is_valid_holding}
use Rattle.proxy_rules.specs.Shares.{is_corporation, is_individual, row_of, shares_of, shares_by}
use Rattle.proxy_rules.specs.Parties.{authorises, names}
use Rattle.proxy_rules.specs.declared.meeting_records.Cutoffs.{Cutoffs}
use Rattle.proxy_rules.proofs.ProxyValidLemmas.{valid_of}
use Rattle.seq.proofs.Filtered.{any-filter}
use Rattle.proxy_rules.proofs.ProxyNameLemmas.{same_name-sym}
use Rattle.proxy_rules.proofs.TagLemmas.{are_tags-appointments}
use Rattle.poll_rules.specs.Quorum.{qualifies}
use Rattle.poll_rules.specs.Roles.{has_authority, is_proxy_in, role_if, roles_by, roles_of}
use Rattle.poll_rules.specs.declared.roles.Role.{Role}
use Rattle.poll_rules.proofs.GatherLemmas.{list_any-map}
use Rattle.caller_view.specs.AttendanceRulings.{governs_any, may_demand}
use Rattle.caller_view.specs.Rights.{governed_acts, no_runs}
use Rattle.party_views.specs.OwnViews.{authorised_in_rows, governed_by, holds_as_individual, received_by, shares_of_kind, shares_in}
use Rattle.party_views.specs.PartyRows.{authority_rows_in, givers, member_in}
use Rattle.party_views.specs.Views.{own_in}
use Rattle.party_views.specs.declared.own_rows.AuthorityRows.{AuthorityRows}
use Rattle.laws_step.proofs.AnyLemmas.{any-alike, any-and, any-either, any-turned}
use Rattle.laws_step.proofs.MemberRows.{row_of-any, rows_differ, rows_held}
use Rattle.laws_step.proofs.GovernedLemmas.{any-among, governed-by_member, valid-is}
use Rattle.laws_step.proofs.StepPlaceLemmas.{runs_that-some, some_place, some_place-and, some_place-any}
use Rattle.laws_step.proofs.ProxyLemmas.{governing-passing}
use Rattle.laws_step.proofs.StepSessionLemmas.{acts-shown}

-- ---- the capacities that a row gives

-- the person is the individual who holds the row
abbrev holds_row : List ℕ → RegisterRow → Bool
holds_row person row = is_individual row.kind && same_name row.member person

-- the person has the authority of the corporation that holds the row
abbrev acts_for_row : List Authority → List ℕ → RegisterRow → Bool
acts_for_row authorities person row = is_corporation row.kind && has_authority authorities row.member person

-- a person has a capacity in two lists together exactly where it has one in either
qualifies-append : (these those : List Role) → qualifies (these ++ those) ≡ (qualifies these || qualifies those)
qualifies-append [] those = refl
qualifies-append (role ∷ these) those = refl

-- a capacity by one test
qualifies-role_if : (has : Bool) (capacity : Capacity) (member : List ℕ) → qualifies (role_if has capacity member) ≡ has
qualifies-role_if true capacity member = refl
qualifies-role_if false capacity member = refl

-- whoever has a capacity by three tests passes one of them
qualifies-three : (a b c : Bool) (member : List ℕ)
    → qualifies (role_if a Member member ++ role_if b Rep member ++ role_if c Proxy member) ≡ (a || b || c)
qualifies-three true b c member = refl
qualifies-three false true c member = refl
qualifies-three false false c member = qualifies-role_if c Proxy member

-- a person has a capacity exactly where some row gives one
qualifies-any : {X : Type 0} (roles : X → List Role) (xs : List X) → qualifies (flat_map roles xs) ≡ list_any (λ x. qualifies (roles x)) xs
qualifies-any roles [] = refl
qualifies-any roles (x ∷ xs) =
    ap qualifies (flat_map-cons roles x xs)
    ∙ qualifies-append (roles x) (flat_map roles xs)
    ∙ ap (λ b. qualifies (roles x) || b) (qualifies-any roles xs)

-- ---- as a member

-- a row, if there is one, is an individual's
individual-if : (o : Option RegisterRow) → holds_as_individual o ≡ option_map_or (λ row. is_individual row.kind) o false
individual-if None = refl
individual-if (Some row) = refl

-- a party's row is an individual's exactly where some row makes it a member
as_member : (rows : List RegisterRow) (party : List ℕ) → are_rows rows ≡ true
    → holds_as_individual (row_of rows party) ≡ list_any (holds_row party) rows
as_member rows party h =
    individual-if (row_of rows party)
    ∙ row_of-any (λ row. is_individual row.kind) rows party (rows_differ rows h)
    ∙ ap (λ test. list_any test rows) (λ i row. and_comm (same_name row.member party) (is_individual row.kind) i)

-- ---- as a representative

-- a row, if there is one, has a corporation's shares
corporation-if : (o : Option RegisterRow) → nat_lt 0 (shares_in o) ≡ option_map_or (λ row. nat_lt 0 (shares_of_kind row.kind row.shares)) o false
corporation-if None = refl
corporation-if (Some row) = refl

-- a holding is of at least one share
some_shares : (kind : HolderKind) (shares : ℕ) → nat_le 1 shares ≡ true → nat_lt 0 (shares_of_kind kind shares) ≡ is_corporation kind
some_shares Corporation shares some = lt-ltb 0 shares (leb-true 1 shares some)
some_shares Individual shares some = refl
some_shares Treasury shares some = refl

-- and so is a row of a register
holding_some : (row : RegisterRow) → is_holding row ≡ true → nat_le 1 row.shares ≡ true
holding_some row h =
    let few = nat_le row.shares 1000000000000 in
    first_so (nat_le 1 row.shares) few (first_so (nat_le 1 row.shares && few) (nat_le row.paid 1000000) h)

-- the corporation of that name holds the row
abbrev is_row_of : List ℕ → RegisterRow → Bool
is_row_of corporation row = same_name row.member corporation && is_corporation row.kind

-- a corporation has shares in the register exactly where some row is the corporation's
in_register : (rows : List RegisterRow) (corporation : List ℕ) → are_rows rows ≡ true
    → nat_lt 0 (shares_in (row_of rows corporation)) ≡ list_any (is_row_of corporation) rows
in_register rows corporation h =
    corporation-if (row_of rows corporation)
    ∙ row_of-any (λ row. nat_lt 0 (shares_of_kind row.kind row.shares)) rows corporation (rows_differ rows h)
    ∙ any-alike is_holding
    (λ row. same_name row.member corporation && nat_lt 0 (shares_of_kind row.kind row.shares))
    (is_row_of corporation) rows (rows_held rows h)
    (λ row held. ap (λ b. same_name row.member corporation && b) (some_shares row.kind row.shares (holding_some row held)))

-- three conditions, with the last first
and_moved : (names same is : Bool) → (names && (same && is)) ≡ (is && (same && names))
and_moved true true is = and_comm true is
and_moved true false is = and_comm false is
and_moved false true is = sym (and_comm is false)
and_moved false false is = sym (and_comm is false)

-- an authority that names the person is of the corporation that holds the row
acts-any : (authorities : List Authority) (person : List ℕ) (row : RegisterRow)
    → list_any (λ a. authorises person a && is_row_of a.corporation row) authorities ≡ acts_for_row authorities person row
acts-any authorities person row =
    ap (λ test. list_any test authorities)
    (λ i (a : Authority). and_moved (authorises person a) (same_name row.member a.corporation) (is_corporation row.kind) i)
    ∙ any-and (is_corporation row.kind) (λ (a : Authority). same_name row.member a.corporation && authorises person a) authorities
    ∙ ap (λ test. is_corporation row.kind && list_any test authorities)
    (λ i (a : Authority). same_name-sym row.member a.corporation i && authorises person a)

-- a party has an authority of a corporation in the register exactly where some row makes it a representative
as_representative : (m : MeetingLists) (party : List ℕ) → are_rows m.register ≡ true
    → list_any (λ (a : Authorised). nat_lt 0 a.shares) (map authorised_in_rows (map (authority_rows_in m) (filter (authorises party) m.authorities)))
    ≡ list_any (acts_for_row m.authorities party) m.register
as_representative m party h =
    let rows = m.register in
    let authorities = m.authorities in
    list_any-map (λ (a : Authorised). nat_lt 0 a.shares) authorised_in_rows (map (authority_rows_in m) (filter (authorises party) authorities))
    ∙ list_any-map (λ (a : AuthorityRows). nat_lt 0 (shares_in a.row)) (authority_rows_in m) (filter (authorises party) authorities)
    ∙ any-filter (λ (a : Authority). nat_lt 0 (shares_in (row_of rows a.corporation))) (authorises party) authorities
    ∙ ap (λ test. list_any test authorities)
    (λ i (a : Authority).
    (ap (λ b. authorises party a && b) (in_register rows a.corporation h)
    ∙ sym (any-and (authorises party a) (is_row_of a.corporation) rows)) i)
    ∙ any-turned (λ (a : Authority) row. authorises party a && is_row_of a.corporation row) authorities rows
    ∙ ap (λ test. list_any test rows) (λ i row. acts-any authorities party row i)

-- ---- as a proxy

module _ (cutoffs : Cutoffs) (m : MeetingLists) (party : List ℕ) where
  -- the party governs at least one share of the row
  abbrev proxy_for_row : RegisterRow → Bool
  proxy_for_row row = is_proxy_in cutoffs (holding_by m.appointments m.endings row) party

  -- the appointment governs some share
  abbrev governs_some : Appointment → Bool
  governs_some a = not (no_runs (governed_in cutoffs (holding_of m.register m.appointments m.endings a.member) a.number))

  -- the appointment governs that place of so many shares of its member
  abbrev governs_place : Appointment → ℕ → ℕ → Bool
  governs_place a shares place = governs cutoffs (holding_with shares m.appointments m.endings a.member) a.number place

  -- the appointment governs some of so many shares of its member
  abbrev governs_of : Appointment → ℕ → Bool
  governs_of a shares = some_place (governs_place a shares) shares

  -- the appointment governs some share of the row
  abbrev governs_row : Appointment → RegisterRow → Bool
  governs_row a row = same_name row.member a.member && governs_of a (shares_of row)

  -- of a row, if there is one, some share is governed
  governed-if : (a : Appointment) (o : Option RegisterRow) → governs_of a (option_map_or shares_of o 0) ≡ option_map_or (λ row. governs_of a (shares_of row)) o false
  governed-if a None = refl
  governed-if a (Some row) = refl

  -- an appointment governs shares exactly where it governs some share of some row
  governed-any : (a : Appointment) → are_rows m.register ≡ true
      → governs_some a ≡ list_any (governs_row a) m.register
  governed-any a rows =
      runs_that-some (governs_place a (shares_by m.register a.member)) (shares_by m.register a.member)
      ∙ governed-if a (row_of m.register a.member)
      ∙ row_of-any (λ row. governs_of a (shares_of row)) m.register a.member (rows_differ m.register rows)

  -- some share of the row is governed by an appointment that passes
  abbrev passes_in : (Appointment → Bool) → RegisterRow → Bool
  passes_in test row = some_place (λ place. option_map_or test (governing_in cutoffs (holding_by m.appointments m.endings row) place) false) (shares_of row)

  -- some appointment that passes governs a share of the row exactly where some share is governed by one
  passing-any : (test : Appointment → Bool) (row : RegisterRow) → are_numbered_after [] m.appointments ≡ true
      → list_any (λ a. test a && governs_row a row) m.appointments ≡ passes_in test row
  passing-any test row numbered =
      let shares = shares_of row in
      let of_member : Appointment → ℕ → Bool = λ a place. same_name row.member a.member && governs_place a shares place in
      ap (λ passes. list_any passes m.appointments)
      (λ i (a : Appointment).
      (ap (λ b. test a && b) (some_place-and (same_name row.member a.member) (governs_place a shares) shares)
      ∙ some_place-and (test a) (of_member a) shares) i)
      ∙ some_place-any (λ a place. test a && of_member a place) m.appointments shares
      ∙ ap (λ passes. some_place passes shares)
      (λ i place. governing-passing cutoffs shares m.appointments m.endings row.member test place numbered i)

  -- some appointment that passes governs shares exactly where some share of some row is governed by one
  pub passing-rows : (test : Appointment → Bool) → are_rows m.register ≡ true → are_numbered_after [] m.appointments ≡ true
      → list_any (λ a. test a && governs_some a) m.appointments ≡ list_any (passes_in test) m.register
  passing-rows test rows numbered =
      ap (λ passes. list_any passes m.appointments)
      (λ i (a : Appointment).
      (ap (λ b. test a && b) (governed-any a rows) ∙ sym (any-and (test a) (governs_row a) m.register)) i)
      ∙ any-turned (λ a row. test a && governs_row a row) m.appointments m.register
      ∙ ap (λ passes. list_any passes m.register) (λ i row. passing-any test row numbered i)

  -- a party governs shares exactly where some row makes it a proxy
  as_proxy : are_rows m.register ≡ true → are_numbered_after [] m.appointments ≡ true
      → list_any (λ a. names party a && governs_some a) m.appointments ≡ list_any proxy_for_row m.register
  as_proxy rows numbered = passing-rows (names party) rows numbered

  -- a party has a capacity exactly where some row gives it one of the three
  by_capacity : qualifies (roles_of cutoffs m.register m.appointments m.endings m.authorities party)
      ≡ (list_any (holds_row party) m.register || list_any (acts_for_row m.authorities party) m.register
      || list_any proxy_for_row m.register)
  by_capacity =
      qualifies-any (roles_by cutoffs m.appointments m.endings m.authorities party) m.register
      ∙ ap (λ test. list_any test m.register)
      (λ i row. qualifies-three (holds_row party row) (acts_for_row m.authorities party row) (proxy_for_row row) row.member i)
      ∙ any-either (λ row. holds_row party row || acts_for_row m.authorities party row) proxy_for_row m.register
      ∙ ap (λ b. b || list_any proxy_for_row m.register) (any-either (holds_row party) (acts_for_row m.authorities party) m.register)

-- ---- a meeting's lists

-- rows that stand where a register is loaded are a register, or none
register_if : (loaded : Bool) (rows : List RegisterRow) → cond loaded (is_register rows) (no_rows rows) ≡ true → are_rows rows ≡ true
register_if true rows h = or_right (no_rows rows) (is_register rows) h
register_if false rows h = ap (λ b. b || is_register rows) h

-- what of a meeting's lists the right rests on
pub record Facts (m : MeetingLists) : Type 0 where
  pub rows : are_rows m.register ≡ true
  pub numbered : are_numbered_after [] m.appointments ≡ true
  pub tags : are_tags m.appointments ≡ true

-- they are among the third and the fourth of the ten conditions of a meeting
pub facts : (m : MeetingLists) → is_meeting m ≡ true → Facts m
facts m h =
    let resolutions = length m.meeting.resolutions in
    let three = first_so _ _ (first_so _ _ (first_so _ _ (first_so _ _ (first_so _ _ (first_so _ _ h))))) in
    let loaded = second_so (are_resolutions m.meeting.resolutions && are_sessions m.meeting) (is_loaded_right m) (first_so _ _ three) in
    let rows = cond m.meeting.loaded (is_register m.register) (no_rows m.register) in
    let stand = first_so rows (implies (is_opened m.meeting.first) m.meeting.loaded) loaded in
    let given = second_so _ _ three in
    record {
      rows = register_if m.meeting.loaded m.register stand;
      numbered = first_so (are_numbered_after [] m.appointments) (list_all (is_appointment resolutions) m.appointments) given;
      tags = are_tags-appointments resolutions m.appointments given;
    }

-- what is kept of a member in a meeting is such as an office keeps
pub valid_in : (m : MeetingLists) (member : List ℕ) → Facts m → is_valid_holding (holding_of m.register m.appointments m.endings member) ≡ true
valid_in m member f = valid-is (holding_of m.register m.appointments m.endings member) (valid_of m.register m.appointments m.endings member f.rows f.numbered f.tags)

-- the cutoffs for acts in the last session
abbrev acts_of : MeetingLists → List ℕ → ℕ → Cutoffs
acts_of m closed now = cutoffs_of m.meeting (Acts (last_number m.meeting)) closed now

-- whether a party governs shares, by its own things, is whether some appointment that names it does
own_governs : (m : MeetingLists) (closed party : List ℕ) (now : ℕ) → Facts m → governs_any m.meeting (own_in m closed party now)
    ≡ list_any (λ a. names party a && governs_some (acts_of m closed now) m party a) m.appointments
own_governs m closed party now f =
    let cutoffs = acts_of m closed now in
    let last = last_number m.meeting in
    let received = filter (names party) m.appointments in
    let members = map (member_in m) (givers received) in
    list_any-map (λ (r : Received). not (no_runs (governed_acts last r))) (received_by members closed m.meeting m.polls now) received
    ∙ any-among (λ a. not (no_runs (governed_acts last (received_by members closed m.meeting m.polls now a)))) (governs_some cutoffs m party) received
    (λ a among. ap (λ runs. not (no_runs runs))
    (acts-shown m.meeting closed now (λ by. governed_by members by a.member a.number) last
    ∙ governed-by_member m cutoffs received a.member a.number (valid_in m a.member f) among))
    ∙ any-filter (governs_some cutoffs m party) (names party) m.appointments

-- a party may demand a poll exactly where it has a capacity
pub may_demand-qualifies : (m : MeetingLists) (closed party : List ℕ) (now : ℕ) → is_meeting m ≡ true
    → may_demand m.meeting (own_in m closed party now)
    ≡ qualifies (roles_of (acts_of m closed now) m.register m.appointments m.endings m.authorities party)
may_demand-qualifies m closed party now h =
    let f = facts m h in
    let cutoffs = acts_of m closed now in
    let member = as_member m.register party f.rows in
    let representative = as_representative m party f.rows in
    let proxy = own_governs m closed party now f ∙ as_proxy cutoffs m party f.rows f.numbered in
    (λ i. member i || representative i || proxy i) ∙ sym (by_capacity cutoffs m party)
