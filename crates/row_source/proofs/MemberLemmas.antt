-- Members, each once.
use Rattle.std.proofs.Common.{◌≡◌, ℕ, ◌+◌, ◌<◌, nat_eq, Bool, true, false, not, ◌||◌, cond, List, [], ◌∷◌, ◌++◌, length, get_or, filter, map, take, Option, refl, sym, ap, ◌∙◌, true≢false, arith}
use Rattle.std.specs.Cmp.Lexicographic.{texts_ties}
use Rattle.std.specs.List.{list_any}
use Rattle.std.specs.Ordering.{is_eq}
use Rattle.std.proofs.lemmas.Bool.Decides.{nat_tests}
use Rattle.std.proofs.lemmas.List.{append-nil, map-append, take_more}
use Rattle.std.proofs.lemmas.List.Folds.{list_any-append}
use Rattle.std.proofs.lemmas.List.Elements.{filter-append}
use Rattle.vocabulary.specs.Names.{name_cmp, same_name}
use Rattle.vocabulary.specs.declared.kinds.Capacity.{Capacity}
use Rattle.vocabulary.specs.declared.kinds.Capacity.TheVariants.{Member, Rep, Proxy}
use Rattle.desk_words.proofs.WordRowLemmas.{same_name-true, same_name-refl}
use Rattle.desk_words.specs.declared.office.MeetingLists.{MeetingLists}
use Rattle.desk_words.specs.declared.records.Appointment.{Appointment}
use Rattle.desk_words.specs.declared.request.NewCast.{NewCast}
use Rattle.party_views.specs.RowsRead.{appointments_read, members_read}
use Rattle.party_views.specs.PartyRows.{parties_once, givers, member_in}
use Rattle.party_views.specs.declared.own_rows.MemberRows.{MemberRows}
use Rattle.party_views.proofs.OwnLemmas.{filter-map, filter-swap}
use Rattle.proxy_rules.proofs.ProxyNameLemmas.{same_name-sym}
use Rattle.proxy_rules.specs.Holdings.{is_given_by}
use Rattle.row_source.specs.LookUps.{givers_among, member_at}

-- the names are not the same
abbrev differs : List ℕ → List ℕ → Bool
differs name other = not (same_name other name)

-- ---- one more

-- the parties, each once, with one party more, behind them unless it stands already
each_once-more : (names : List (List ℕ)) (name : List ℕ) → parties_once (names ++ name ∷ []) ≡ cond (list_any (λ other. same_name other name) names) (parties_once names) (parties_once names ++ name ∷ [])
each_once-more [] name = refl
each_once-more (first ∷ names) name =
    let stands = list_any (λ other. same_name other name) names in
    let once = parties_once names in
    ap (λ l. first ∷ filter (differs first) l) (each_once-more names name)
    ∙ (elim (same_name first name) as (λ b. same_name first name ≡ b
    → first ∷ filter (differs first) (cond stands once (once ++ name ∷ [])) ≡ cond (b || stands) (first ∷ filter (differs first) once) (first ∷ (filter (differs first) once ++ name ∷ []))) [
      | true ↦ λ same.
          let left : differs first name ≡ false = ap (λ n. not (same_name n first)) (sym (same_name-true first name same)) ∙ ap not (same_name-refl first) in
          let out : filter (differs first) (once ++ name ∷ []) ≡ filter (differs first) once =
          filter-append (differs first) once (name ∷ []) ∙ ap (λ b. filter (differs first) once ++ cond b (name ∷ []) []) left ∙ append-nil (filter (differs first) once) in
          (elim stands as (λ c. first ∷ filter (differs first) (cond c once (once ++ name ∷ [])) ≡ first ∷ filter (differs first) once) [ true ↦ refl | false ↦ ap (λ l. first ∷ l) out ])
      | false ↦ λ other.
          let stays : differs first name ≡ true = ap not (same_name-sym name first ∙ other) in
          let preserved : filter (differs first) (once ++ name ∷ []) ≡ filter (differs first) once ++ name ∷ [] =
          filter-append (differs first) once (name ∷ []) ∙ ap (λ b. filter (differs first) once ++ cond b (name ∷ []) []) stays in
          (elim stands as (λ c. first ∷ filter (differs first) (cond c once (once ++ name ∷ [])) ≡ cond c (first ∷ filter (differs first) once) (first ∷ (filter (differs first) once ++ name ∷ []))) [ true ↦ refl | false ↦ ap (λ l. first ∷ l) preserved ])
    ]) refl

-- one appointment more of them
abbrev member_of : Appointment → List ℕ
member_of a = a.member

or_none : (b : Bool) → (b || false) ≡ b
or_none true = refl
or_none false = refl

given-more : (given : List Appointment) (i : ℕ) (a : Appointment) → i < length given → a ≡ get_or given i a → take (i + 1) given ≡ take i given ++ a ∷ []
given-more given i a h is = take_more given i a h ∙ ap (λ y. take i given ++ y ∷ []) (sym is)

-- whether a member gave one of them
pub gave-more : (member : List ℕ) (given : List Appointment) (i : ℕ) (a : Appointment) → i < length given → a ≡ get_or given i a
    → list_any (is_given_by member) (take (i + 1) given) ≡ (list_any (is_given_by member) (take i given) || same_name a.member member)
gave-more member given i a h is =
    ap (list_any (is_given_by member)) (given-more given i a h is)
    ∙ list_any-append (is_given_by member) (take i given) (a ∷ [])
    ∙ ap (λ b. list_any (is_given_by member) (take i given) || b) (or_none (same_name a.member member))

any-members : (member : List ℕ) (given : List Appointment) → list_any (λ name. same_name name member) (map member_of given) ≡ list_any (is_given_by member) given
any-members member [] = refl
any-members member (a ∷ given) = ap (λ b. same_name a.member member || b) (any-members member given)

-- the givers, with one more unless it gave one already
pub givers-more : (given : List Appointment) (i : ℕ) (a : Appointment) → i < length given → a ≡ get_or given i a
    → givers (take (i + 1) given) ≡ cond (list_any (is_given_by a.member) (take i given)) (givers (take i given)) (givers (take i given) ++ a.member ∷ [])
givers-more given i a h is =
    ap givers (given-more given i a h is)
    ∙ ap parties_once (map-append member_of (take i given) (a ∷ []))
    ∙ each_once-more (map member_of (take i given)) a.member
    ∙ ap (λ b. cond b (givers (take i given)) (givers (take i given) ++ a.member ∷ [])) (any-members a.member (take i given))

-- a member who gave none before is one more
pub giver-new : (given : List Appointment) (i : ℕ) (a : Appointment) (before after : List (List ℕ)) → i < length given → a ≡ get_or given i a
    → list_any (is_given_by a.member) (take i given) ≡ false → before ≡ givers (take i given) → after ≡ before ++ a.member ∷ [] → after ≡ givers (take (i + 1) given)
giver-new given i a before after h is none preserved put =
    put ∙ ap (λ l. l ++ a.member ∷ []) preserved ∙ ap (λ b. cond b (givers (take i given)) (givers (take i given) ++ a.member ∷ [])) (sym none) ∙ sym (givers-more given i a h is)

-- one who gave one is none
pub giver-again : (given : List Appointment) (i : ℕ) (a : Appointment) (before after : List (List ℕ)) → i < length given → a ≡ get_or given i a
    → list_any (is_given_by a.member) (take i given) ≡ true → before ≡ givers (take i given) → after ≡ before → after ≡ givers (take (i + 1) given)
giver-again given i a before after h is some preserved put =
    put ∙ preserved ∙ ap (λ b. cond b (givers (take i given)) (givers (take i given) ++ a.member ∷ [])) (sym some) ∙ sym (givers-more given i a h is)

-- and was seen
pub seen-more : (member : List ℕ) (given : List Appointment) (i : ℕ) (a : Appointment) (before after : Bool) → i < length given → a ≡ get_or given i a
    → after ≡ cond (is_eq (name_cmp a.member member)) true before → before ≡ list_any (is_given_by member) (take i given) → after ≡ list_any (is_given_by member) (take (i + 1) given)
seen-more member given i a before after h is put preserved =
    put ∙ ap (λ b. cond b true before) (sym (texts_ties a.member member)) ∙ either (same_name a.member member) before ∙ ap (λ b. b || same_name a.member member) preserved ∙ sym (gave-more member given i a h is)
  where
    either : (a b : Bool) → cond a true b ≡ (b || a)
    either true true = refl
    either true false = refl
    either false true = refl
    either false false = refl

pub is_new : (b : Bool) → not b ≡ true → b ≡ false
is_new true h = sym h
is_new false h = refl

pub is_old : (b : Bool) → not b ≡ false → b ≡ true
is_old true h = refl
is_old false h = sym h

-- ---- those who gave one of some

filter-none : {X : Type 0} (xs : List X) → filter (λ _. false) xs ≡ []
filter-none [] = refl
filter-none (x ∷ xs) = filter-none xs

-- nobody gave one of none
pub none_among : (given those : List Appointment) (is_empty : Bool) → is_empty ≡ true → is_empty ≡ nat_eq (length those) 0 → givers_among given those ≡ []
none_among given [] is_empty so is = filter-none (givers given)
none_among given (a ∷ those) is_empty so is =
    let none : nat_eq (length (a ∷ those)) 0 ≡ false = grind (arith, nat_tests) in
    absurd (true≢false (sym so ∙ is ∙ none))

-- those in a set of who gave one gave one
pub in_set : (members : List (List ℕ)) (in_it gave : List ℕ → Bool) → ((member : List ℕ) → in_it member ≡ gave member) → filter in_it members ≡ filter gave members
in_set members in_it gave same = let alike : in_it ≡ gave = λ i. λ member. same member i in ap (λ test. filter test members) alike

-- ---- those of one member

-- where all that pass the first test pass the second, the second leaves them
filter-within : {X : Type 0} (p q : X → Bool) (xs : List X) → ((x : X) → p x ≡ true → q x ≡ true) → filter p (filter q xs) ≡ filter p xs
filter-within p q [] within = refl
filter-within p q (x ∷ xs) within =
    let rest = filter-within p q xs within in
    (elim (q x) as (λ b. q x ≡ b → filter p (cond b (x ∷ filter q xs) (filter q xs)) ≡ cond (p x) (x ∷ filter p xs) (filter p xs)) [
      | true ↦ λ _. ap (λ l. cond (p x) (x ∷ l) l) rest
      | false ↦ λ out. (elim (p x) as (λ c. p x ≡ c → filter p (filter q xs) ≡ cond c (x ∷ filter p xs) (filter p xs)) [
        | true ↦ λ passes. absurd (true≢false (sym (within x passes) ∙ out))
        | false ↦ λ _. rest
      ]) refl
    ]) refl

-- the name is the member's
abbrev of : List ℕ → List ℕ → Bool
of member name = same_name name member

-- those of a member, each once
each_once-of : (member : List ℕ) (names : List (List ℕ)) → parties_once (filter (of member) names) ≡ filter (of member) (parties_once names)
each_once-of member [] = refl
each_once-of member (name ∷ names) =
    let once = parties_once names in
    let rest = each_once-of member names in
    (elim (of member name) as (λ b. of member name ≡ b → parties_once (cond b (name ∷ filter (of member) names) (filter (of member) names))
    ≡ cond b (name ∷ filter (of member) (filter (differs name) once)) (filter (of member) (filter (differs name) once))) [
      | true ↦ λ _. ap (λ l. name ∷ filter (differs name) l) rest ∙ ap (λ l. name ∷ l) (filter-swap (differs name) (of member) once)
      | false ↦ λ unlike. rest ∙ sym (filter-within (of member) (differs name) once (apart name unlike))
    ]) refl
  where
    apart : (name : List ℕ) → of member name ≡ false → (x : List ℕ) → of member x ≡ true → differs name x ≡ true
    apart name unlike x is = (elim (same_name x name) as (λ c. same_name x name ≡ c → not c ≡ true) [
      | true ↦ λ same. absurd (true≢false (sym is ∙ ap (of member) (same_name-true x name same) ∙ unlike))
      | false ↦ λ _. refl
    ]) refl

-- none of those of a member is another's
none_apart : (member : List ℕ) (names : List (List ℕ)) → filter (differs member) (filter (of member) names) ≡ []
none_apart member [] = refl
none_apart member (name ∷ names) =
    let rest = none_apart member names in
    (elim (of member name) as (λ b. of member name ≡ b → filter (differs member) (cond b (name ∷ filter (of member) names) (filter (of member) names)) ≡ []) [
      | true ↦ λ is. ap (λ b. cond (not b) (name ∷ filter (differs member) (filter (of member) names)) (filter (differs member) (filter (of member) names))) is ∙ rest
      | false ↦ λ _. rest
    ]) refl

-- the member, where it gave one
abbrev if_any : List Appointment → List ℕ → List (List ℕ)
if_any [] member = []
if_any (a ∷ given) member = member ∷ []

-- whoever gave some that a member gave is the member
one_giver : (member : List ℕ) (given : List Appointment) → givers (filter (is_given_by member) given) ≡ if_any (filter (is_given_by member) given) member
one_giver member [] = refl
one_giver member (a ∷ given) =
    let theirs = filter (is_given_by member) given in
    let alone : filter (differs member) (givers theirs) ≡ [] =
    ap (λ names. filter (differs member) (parties_once names)) (sym (filter-map (of member) member_of given)) ∙ ap (filter (differs member)) (each_once-of member (map member_of given)) ∙ none_apart member (parties_once (map member_of given)) in
    (elim (of member a.member) as (λ b. of member a.member ≡ b → givers (cond b (a ∷ theirs) theirs) ≡ if_any (cond b (a ∷ theirs) theirs) member) [
      | true ↦ λ is. ap (λ name. name ∷ filter (differs name) (givers theirs)) (same_name-true a.member member is) ∙ ap (λ names. member ∷ names) alone
      | false ↦ λ _. one_giver member given
    ]) refl

-- where there is one of them, the member alone gave them
pub one_named : (found : Option MeetingLists) (member : List ℕ) (given : List Appointment) (is_empty : Bool) → is_empty ≡ false → is_empty ≡ nat_eq (length (filter (is_given_by member) given)) 0
    → member_at found member ∷ [] ≡ map (member_at found) (givers (filter (is_given_by member) given))
one_named found member given is_empty so is = alone (filter (is_given_by member) given) is ∙ ap (map (member_at found)) (sym (one_giver member given))
  where
    alone : (received : List Appointment) → is_empty ≡ nat_eq (length received) 0 → member_at found member ∷ [] ≡ map (member_at found) (if_any received member)
    alone [] is = absurd (true≢false (sym is ∙ so))
    alone (a ∷ received) is = refl

-- what a vote reads of the members
pub members-read : (m : MeetingLists) (new : NewCast) (capacity : Capacity) (received : List Appointment)
    → map (member_in m) (givers (appointments_read new received capacity)) ≡ members_read new (map (member_in m) (givers received)) capacity
members-read m new Member received = refl
members-read m new Rep received = refl
members-read m new Proxy received =
    ap (λ names. map (member_in m) (parties_once names)) (sym (filter-map (of new.member) member_of received))
    ∙ ap (map (member_in m)) (each_once-of new.member (map member_of received))
    ∙ sym (filter-map (λ (rows : MemberRows). same_name rows.member new.member) (member_in m) (givers received))
