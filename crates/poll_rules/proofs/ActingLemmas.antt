-- Members for whom nobody of some may act.
use Rattle.std.proofs.Common.{◌≡◌, ℕ, zero, suc, ◌+◌, ◌<◌, Bool, true, false, cond, List, [], ◌∷◌, ◌++◌, length, get_or, filter, take, refl, sym, ap, ◌∙◌, arith}
use Rattle.std.specs.Prelude.{◌&&◌, ◌||◌, nat_lt, All, Option, Some, None, find, option_and_then, reverse}
use Rattle.std.specs.List.{filter_map, cons_option, list_any, slice_get}
use Rattle.std.specs.Option.{option_map_or}
use Rattle.std.specs.Cmp.Lexicographic.{texts_ties}
use Rattle.std.specs.Ordering.{is_eq}
use Rattle.std.proofs.Math.Bool.{and-false, or-false}
use Rattle.std.proofs.lemmas.Bool.{or_from}
use Rattle.std.proofs.lemmas.List.{reverse-append, take_more}
use Rattle.std.proofs.lemmas.List.Elements.{All-get_or, filter_map-append}
use Rattle.std.proofs.lemmas.List.Folds.{list_any-append, list_any_more}
use Rattle.std.proofs.lemmas.Option.{slice_get-get_or}
use Rattle.seq.proofs.Booleans.{neither_first, neither_second}
use Rattle.seq.proofs.Filtered.{any-filter, none-narrower}
use Rattle.vocabulary.specs.Names.{name_cmp, same_name}
use Rattle.vocabulary.specs.Places.{places_that}
use Rattle.vocabulary.specs.declared.kinds.Capacity.TheVariants.{Member, Rep, Proxy}
use Rattle.desk_words.proofs.WordRowLemmas.{same_name-true}
use Rattle.desk_words.specs.declared.records.Appointment.{Appointment}
use Rattle.desk_words.specs.declared.records.Authority.{Authority}
use Rattle.desk_words.specs.declared.records.Ending.{Ending}
use Rattle.desk_words.specs.declared.records.RegisterRow.{RegisterRow}
use Rattle.proxy_rules.proofs.ProxyNameLemmas.{filter-named, same_name-sym}
use Rattle.proxy_rules.specs.Governing.{governing_in, has_share, is_ended, is_over, last_over, unended}
use Rattle.proxy_rules.specs.Holdings.{holding_by, is_given_by}
use Rattle.proxy_rules.specs.Shares.{is_corporation, is_individual, shares_of}
use Rattle.proxy_rules.specs.declared.holdings.Holding.{Holding}
use Rattle.proxy_rules.specs.declared.meeting_records.Cutoffs.{Cutoffs}
use Rattle.poll_rules.specs.Acting.{some_authorised, some_may_act, some_named}
use Rattle.poll_rules.specs.Demands.{by_a_representative, holder_demanded, names_one, share_demands, shares_demanding}
use Rattle.poll_rules.specs.GatheredItems.{are_in}
use Rattle.poll_rules.specs.Roles.{has_authority, is_proxy_at, is_proxy_in, role_if, roles_by}

-- ---- one person more

-- what a set has after one was put to it
pub put-more : (person other : List ℕ) (before after : Bool) → after ≡ cond (is_eq (name_cmp person other)) true before → after ≡ (before || same_name person other)
put-more person other before after put = put ∙ ap (λ b. cond b true before) (sym (texts_ties person other)) ∙ either (same_name person other) before
  where
    either : (a b : Bool) → cond a true b ≡ (b || a)
    either true true = refl
    either true false = refl
    either false true = refl
    either false false = refl

-- the value that is read at a place of the list
pub place-there : {X : Type 0} (items all : List X) (places : List ℕ) (i : ℕ) (d : X) → i < length places → All (λ p. p < length items) places → all ≡ items
    → slice_get all (get_or places i 0) ≡ Some (get_or all (get_or places i 0) d)
place-there items all places i d lt within same =
    let inside = All-get_or (λ p. p < length items) places i 0 lt within in
    let bound : get_or places i 0 < length all = omega (arith, inside, ap length same) in
    slice_get-get_or all (get_or places i 0) d bound

-- a value that passes, at one place more of a list
pub any-place : {X : Type 0} (p : X → Bool) (all : List X) (places : List ℕ) (i : ℕ) (x : X) → i < length places → slice_get all (get_or places i 0) ≡ Some x
    → list_any p (filter_map (slice_get all) (take (i + 1) places)) ≡ (list_any p (filter_map (slice_get all) (take i places)) || p x)
any-place {X} p all places i x lt there =
    let place = get_or places i 0 in
    ap (λ l. list_any p (filter_map (slice_get all) l)) (take_more places i 0 lt)
    ∙ ap (list_any p) (filter_map-append (slice_get all) (take i places) (place ∷ []))
    ∙ list_any-append p (filter_map (slice_get all) (take i places)) (filter_map (slice_get all) (place ∷ []))
    ∙ ap (λ (o : Option X). list_any p (filter_map (slice_get all) (take i places)) || list_any p (cons_option o [])) there
    ∙ ap (λ b. list_any p (filter_map (slice_get all) (take i places)) || b) (or-false (p x))

-- of the places of a list those pass whose values do
pub any-places : {X : Type 0} (p : X → Bool) (all : List X) (places : List ℕ) → list_any (λ place. option_map_or p (slice_get all place) false) places ≡ list_any p (filter_map (slice_get all) places)
any-places p all [] = refl
any-places {X} p all (place ∷ places) =
    elim (slice_get all place) as (λ (o : Option X). (option_map_or p o false || list_any (λ other. option_map_or p (slice_get all other) false) places) ≡ list_any p (cons_option o (filter_map (slice_get all) places))) [
      | None ↦ any-places p all places
      | Some x ↦ ap (λ b. p x || b) (any-places p all places)
    ]

-- both tests of a value may change places
pub any-swap : {X : Type 0} (p q : X → Bool) (xs : List X) → list_any (λ x. p x && q x) xs ≡ list_any (λ x. q x && p x) xs
any-swap p q xs = ap (λ test. list_any test xs) (λ k x. swap (p x) (q x) k)
  where
    swap : (a b : Bool) → (a && b) ≡ (b && a)
    swap true true = refl
    swap true false = refl
    swap false true = refl
    swap false false = refl

-- one person more among them
pub in-more : (persons : List (List ℕ)) (i : ℕ) (x person : List ℕ) → i < length persons → x ≡ get_or persons i x → (are_in (take i persons) person || same_name x person) ≡ are_in (take (i + 1) persons) person
in-more persons i x person lt is =
    ap (λ y. are_in (take i persons) person || same_name y person) is ∙ sym (list_any_more (λ o. same_name o person) persons i x lt)

-- the corporations that are found by a person are those that authorised it
pub authorised-found : (authorities : List Authority) (person member : List ℕ)
    → list_any (λ (a : Authority). same_name a.corporation member) (filter (λ (a : Authority). is_eq (name_cmp a.person person)) authorities) ≡ some_authorised (same_name person) authorities member
authorised-found authorities person member =
    ap (list_any (λ (a : Authority). same_name a.corporation member)) (filter-named (λ (a : Authority). a.person) person authorities)
    ∙ any-filter (λ (a : Authority). same_name a.corporation member) (λ (a : Authority). same_name a.person person) authorities
    ∙ any-swap (λ (a : Authority). same_name a.person person) (λ (a : Authority). same_name a.corporation member) authorities
    ∙ ap (λ test. list_any test authorities) (λ k (a : Authority). same_name a.corporation member && same_name-sym a.person person k)

-- and the members who are found by it are those who named it
pub named-found : (given : List Appointment) (person member : List ℕ)
    → list_any (λ (a : Appointment). same_name a.member member) (filter (λ (a : Appointment). is_eq (name_cmp a.proxy person)) given) ≡ some_named (same_name person) given member
named-found given person member =
    ap (list_any (λ (a : Appointment). same_name a.member member)) (filter-named (λ (a : Appointment). a.proxy) person given)
    ∙ any-filter (λ (a : Appointment). same_name a.member member) (λ (a : Appointment). same_name a.proxy person) given
    ∙ any-swap (λ (a : Appointment). same_name a.proxy person) (λ (a : Appointment). same_name a.member member) given
    ∙ ap (λ test. list_any test given) (λ k (a : Appointment). same_name a.member member && same_name-sym a.proxy person k)

pub or-apart : (a b c : Bool) → ((a || b) || c) ≡ (a || (b || c))
or-apart true b c = refl
or-apart false b c = refl

pub or-three : (a b c d : Bool) → (((a || b) || c) || d) ≡ (a || ((b || c) || d))
or-three true b c d = refl
or-three false b c d = refl

-- ---- who may act, where one of two tests passes

any-or : {X : Type 0} (c p q : X → Bool) (xs : List X) → list_any (λ x. c x && (p x || q x)) xs ≡ (list_any (λ x. c x && p x) xs || list_any (λ x. c x && q x) xs)
any-or c p q [] = refl
any-or c p q (x ∷ xs) =
    ap (λ b. (c x && (p x || q x)) || b) (any-or c p q xs)
    ∙ apart (c x) (p x) (q x) (list_any (λ y. c y && p y) xs) (list_any (λ y. c y && q y) xs)
  where
    apart : (c p q m n : Bool) → ((c && (p || q)) || (m || n)) ≡ (((c && p) || m) || ((c && q) || n))
    apart false p q m n = refl
    apart true true q m n = refl
    apart true false true true n = refl
    apart true false true false n = refl
    apart true false false m n = refl

any-none : {X : Type 0} (c : X → Bool) (xs : List X) → list_any (λ x. c x && false) xs ≡ false
any-none c [] = refl
any-none c (x ∷ xs) = or_from (c x && false) (list_any (λ y. c y && false) xs) (and-false (c x)) (any-none c xs)

-- nobody may act for a member
pub nobody_may_act : (given : List Appointment) (authorities : List Authority) (member : List ℕ) → some_may_act (λ person. false) given authorities member ≡ false
nobody_may_act given authorities member =
    or_from (some_authorised (λ person. false) authorities member) (some_named (λ person. false) given member)
    (any-none (λ (a : Authority). same_name a.corporation member) authorities)
    (any-none (λ (a : Appointment). same_name a.member member) given)

-- one of two persons may where either may
pub either_may_act : (p q : List ℕ → Bool) (given : List Appointment) (authorities : List Authority) (member : List ℕ)
    → some_may_act (λ person. p person || q person) given authorities member ≡ (some_may_act p given authorities member || some_may_act q given authorities member)
either_may_act p q given authorities member =
    ap (λ b. ((p member || q member) || b) || some_named (λ person. p person || q person) given member)
    (any-or (λ (a : Authority). same_name a.corporation member) (λ (a : Authority). p a.person) (λ (a : Authority). q a.person) authorities)
    ∙ ap (λ b. ((p member || q member) || (some_authorised p authorities member || some_authorised q authorities member)) || b)
    (any-or (λ (a : Appointment). same_name a.member member) (λ (a : Appointment). p a.proxy) (λ (a : Appointment). q a.proxy) given)
    ∙ shuffle (p member) (q member) (some_authorised p authorities member) (some_authorised q authorities member) (some_named p given member) (some_named q given member)
  where
    shuffle : (a b c d e f : Bool) → (((a || b) || (c || d)) || (e || f)) ≡ (((a || c) || e) || ((b || d) || f))
    shuffle true b c d e f = refl
    shuffle false true true d e f = refl
    shuffle false true false d true f = refl
    shuffle false true false d false f = refl
    shuffle false false true d e f = refl
    shuffle false false false true true f = refl
    shuffle false false false true false f = refl
    shuffle false false false false e f = refl

-- ---- shares for which nobody acts

found-none : {X : Type 0} (p q : X → Bool) (xs : List X) → list_any q xs ≡ false → option_map_or q (find p xs) false ≡ false
found-none p q [] none = refl
found-none {X} p q (x ∷ xs) none =
    elim (p x) as (λ b. option_map_or q (cond b (Some x) (find p xs)) false ≡ false) [
      | true ↦ neither_first (q x) (list_any q xs) none
      | false ↦ found-none p q xs (neither_second (q x) (list_any q xs) none)
    ]

left-none : {X : Type 0} (q gone : X → Bool) (o : Option X) → option_map_or q o false ≡ false → option_map_or q (option_and_then (λ x. cond (gone x) None (Some x)) o) false ≡ false
left-none q gone None none = refl
left-none {X} q gone (Some x) none = elim (gone x) as (λ b. option_map_or q (cond b None (Some x)) false ≡ false) [ true ↦ refl | false ↦ none ]

none_turned : {X : Type 0} (p : X → Bool) (xs : List X) → list_any p xs ≡ false → list_any p (reverse xs) ≡ false
none_turned p [] none = refl
none_turned p (x ∷ xs) none =
    ap (list_any p) (reverse-append (x ∷ []) xs)
    ∙ list_any-append p (reverse xs) (x ∷ [])
    ∙ or_from (list_any p (reverse xs)) (p x || false) (none_turned p xs (neither_second (p x) (list_any p xs) none))
    (or_from (p x) false (neither_first (p x) (list_any p xs) none) refl)

-- no appointment that passes governs, where none of the holding's passes
pub governing-none : (passes : Appointment → Bool) (cutoffs : Cutoffs) (holding : Holding) (place : ℕ) → list_any passes holding.appointed ≡ false → option_map_or passes (governing_in cutoffs holding place) false ≡ false
governing-none passes cutoffs holding place none =
    let last = found-none (is_over cutoffs place) passes (reverse holding.appointed) (none_turned passes holding.appointed none) in
    let left = left-none passes (is_ended cutoffs holding) (last_over cutoffs holding place) last in
    elim (has_share holding place) as (λ b. option_map_or passes (cond b (option_and_then (unended cutoffs holding) (last_over cutoffs holding place)) None) false ≡ false) [ true ↦ left | false ↦ refl ]

-- where no place passes, none are counted
no_place : (test : ℕ → Bool) → ((place : ℕ) → test place ≡ false) → (n : ℕ) → places_that test n ≡ 0
no_place test none zero = refl
no_place test none (suc n) =
    let rest : places_that test n + 0 ≡ 0 = omega (arith, no_place test none n) in
    ap (λ b. places_that test n + cond b 1 0) (none (suc n)) ∙ rest

-- the appointments of a member that pass are those that are the member's and pass
named-own : (passes : Appointment → Bool) (given : List Appointment) (member : List ℕ) → list_any (λ (a : Appointment). same_name a.member member && passes a) given ≡ false
    → list_any passes (filter (is_given_by member) given) ≡ false
named-own passes given member none = any-filter passes (is_given_by member) given ∙ none

-- no share of a row demands where no demander may act for its member
pub none_demand : (demanded : List ℕ → Bool) (cutoffs : Cutoffs) (given : List Appointment) (ended : List Ending) (authorities : List Authority) (row : RegisterRow)
    → some_may_act demanded given authorities row.member ≡ false → 0 ≡ shares_demanding demanded cutoffs given ended authorities row
none_demand demanded cutoffs given ended authorities row none =
    let front = neither_first (demanded row.member || some_authorised demanded authorities row.member) (some_named demanded given row.member) none in
    let named = neither_second (demanded row.member || some_authorised demanded authorities row.member) (some_named demanded given row.member) none in
    let holder : holder_demanded demanded row ≡ false = ap (λ b. is_individual row.kind && b) (neither_first (demanded row.member) (some_authorised demanded authorities row.member) front) ∙ and-false (is_individual row.kind) in
    let sent : by_a_representative demanded authorities row ≡ false = ap (λ b. is_corporation row.kind && b) (neither_second (demanded row.member) (some_authorised demanded authorities row.member) front) ∙ and-false (is_corporation row.kind) in
    let holding = holding_by given ended row in
    let proxy = λ (place : ℕ). governing-none (λ (a : Appointment). demanded a.proxy) cutoffs holding place (named-own (λ (a : Appointment). demanded a.proxy) given row.member named) in
    sym (no_place (share_demands demanded cutoffs given ended authorities row)
    (λ place. or_from (holder_demanded demanded row || by_a_representative demanded authorities row) (names_one demanded (governing_in cutoffs holding place))
    (or_from (holder_demanded demanded row) (by_a_representative demanded authorities row) holder sent) (proxy place))
    (shares_of row))

-- ---- roles of nobody

-- a test that a person passes is wider than to be that person
narrow : (passes : List ℕ → Bool) (person name : List ℕ) (b : Bool) → passes person ≡ true → (b && passes name) ≡ false → (b && same_name name person) ≡ false
narrow passes person name b right none =
    (elim (same_name name person) as (λ c. same_name name person ≡ c → (b && c) ≡ false) [
      | true ↦ λ same. ap (λ c. b && c) (sym (ap passes (same_name-true name person same) ∙ right)) ∙ none
      | false ↦ λ _. and-false b
    ]) refl

-- the person governs no share of a row whose member named none who passes
pub no_proxy : (passes : List ℕ → Bool) (cutoffs : Cutoffs) (given : List Appointment) (ended : List Ending) (row : RegisterRow) (person : List ℕ)
    → some_named passes given row.member ≡ false → passes person ≡ true → is_proxy_in cutoffs (holding_by given ended row) person ≡ false
no_proxy passes cutoffs given ended row person none right =
    let holding = holding_by given ended row in
    let unnamed = named-own (λ (a : Appointment). same_name a.proxy person) given row.member
    (none-narrower (λ (a : Appointment). same_name a.member row.member && passes a.proxy) (λ (a : Appointment). same_name a.member row.member && same_name a.proxy person) given
    (λ a h. narrow passes person a.proxy (same_name a.member row.member) right h) none) in
    ap (nat_lt 0) (no_place (is_proxy_at cutoffs holding person) (λ place. governing-none (λ (a : Appointment). same_name a.proxy person) cutoffs holding place unnamed) holding.shares)

-- a person who passes has no role by a row for whose member none who passes may act
pub no_roles : (passes : List ℕ → Bool) (cutoffs : Cutoffs) (given : List Appointment) (ended : List Ending) (authorities : List Authority) (row : RegisterRow) (person : List ℕ)
    → some_may_act passes given authorities row.member ≡ false → passes person ≡ true → roles_by cutoffs given ended authorities person row ≡ []
no_roles passes cutoffs given ended authorities row person none right =
    let front = neither_first (passes row.member || some_authorised passes authorities row.member) (some_named passes given row.member) none in
    let named = neither_second (passes row.member || some_authorised passes authorities row.member) (some_named passes given row.member) none in
    let same : same_name row.member person ≡ false = narrow passes person row.member true right (neither_first (passes row.member) (some_authorised passes authorities row.member) front) in
    let own = ap (λ b. is_individual row.kind && b) same ∙ and-false (is_individual row.kind) in
    let unsent : has_authority authorities row.member person ≡ false =
    none-narrower (λ (a : Authority). same_name a.corporation row.member && passes a.person) (λ (a : Authority). same_name a.corporation row.member && same_name a.person person) authorities
    (λ a h. narrow passes person a.person (same_name a.corporation row.member) right h)
    (neither_second (passes row.member) (some_authorised passes authorities row.member) front) in
    let sent = ap (λ b. is_corporation row.kind && b) unsent ∙ and-false (is_corporation row.kind) in
    let proxy = no_proxy passes cutoffs given ended row person named right in
    λ k. role_if (own k) Member row.member ++ role_if (sent k) Rep row.member ++ role_if (proxy k) Proxy row.member

-- of those who pass, each who passes is one
pub among-passing : (passes : List ℕ → Bool) (persons : List (List ℕ)) (person : List ℕ) → passes person ≡ true → are_in (filter passes persons) person ≡ are_in persons person
among-passing passes persons person right =
    any-filter (λ other. same_name other person) passes persons
    ∙ ap (λ test. list_any test persons) (λ k (other : List ℕ). wide other k)
  where
    wide : (other : List ℕ) → (passes other && same_name other person) ≡ same_name other person
    wide other =
        (elim (same_name other person) as (λ c. same_name other person ≡ c → (passes other && c) ≡ c) [
          | true ↦ λ same. ap (λ b. b && true) (ap passes (same_name-true other person same) ∙ right)
          | false ↦ λ _. and-false (passes other)
        ]) refl
