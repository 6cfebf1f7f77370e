-- Whom an appointment that governs a place names.
use Rattle.std.proofs.Common.{◌≡◌, ℕ, suc, ◌<◌, Bool, true, false, ◌&&◌, cond, List, [], ◌∷◌, filter, refl, sym, ap, ◌∙◌, arith, inl, inr}
use Rattle.std.specs.Prelude.{◌==◌, Option, Some, None, reverse, option_and_then}
use Rattle.std.specs.Cmp.{both_ways, first_so, second_so}
use Rattle.std.specs.List.{list_any}
use Rattle.std.specs.Option.{option_map_or}
use Rattle.std.proofs.Math.Bool.{and-false}
use Rattle.std.proofs.lemmas.Bool.{and_from, eq-eqb, eqb-true}
use Rattle.vocabulary.specs.Names.{same_name}
use Rattle.desk_words.proofs.WordRowLemmas.{same_name-true}
use Rattle.desk_words.specs.Office.{are_numbered_after}
use Rattle.desk_words.specs.declared.records.Appointment.{Appointment}
use Rattle.desk_words.specs.declared.records.Ending.{Ending}
use Rattle.proxy_rules.specs.Governing.{governing_in, governs, has_share, is_ended, is_over, last_over, unended}
use Rattle.proxy_rules.specs.Holdings.{are_numbered_from, holding_with, is_given_by}
use Rattle.proxy_rules.specs.declared.meeting_records.Cutoffs.{Cutoffs}
use Rattle.proxy_rules.proofs.ProxyValidLemmas.{numbered_from-own}
use Rattle.proxy_rules.proofs.ProxyNameLemmas.{same_name-sym}
use Rattle.laws_step.proofs.AnyLemmas.{any-none, any-In, In-any, In-find, In-reverse}
use Rattle.laws_step.proofs.StepNumberLemmas.{In, In-filter, Preserved, filter-In}

-- ---- a member and a number name one appointment

-- numbers that come after n are above it
above-n : (n : ℕ) (xs : List Appointment) (a : Appointment) → are_numbered_from n xs ≡ true → In a xs → n < a.number
above-n n [] a numbered here = absurd here
above-n n (x ∷ xs) a numbered here =
    let first = eqb-true x.number (suc n) (first_so (x.number == suc n) (are_numbered_from (suc n) xs) numbered) in
    elim here [
      | inl same ↦ omega (arith, first, ap (λ (b : Appointment). b.number) same)
      | inr later ↦ omega (arith, above-n (suc n) xs a (second_so (x.number == suc n) (are_numbered_from (suc n) xs) numbered) later)
    ]

-- of appointments that are numbered on, two of one number are the same
one_of_number : (n : ℕ) (xs : List Appointment) (a b : Appointment) → are_numbered_from n xs ≡ true → In a xs → In b xs
    → a.number ≡ b.number → a ≡ b
one_of_number n [] a b numbered here there same = absurd here
one_of_number n (x ∷ xs) a b numbered here there same =
    let first = eqb-true x.number (suc n) (first_so (x.number == suc n) (are_numbered_from (suc n) xs) numbered) in
    let rest = second_so (x.number == suc n) (are_numbered_from (suc n) xs) numbered in
    elim here [
      | inl is_a ↦ (elim there [
        | inl is_b ↦ sym is_a ∙ is_b
        | inr later ↦ absurd (omega (arith, first, same, ap (λ (c : Appointment). c.number) is_a, above-n (suc n) xs b rest later))
      ])
      | inr later_a ↦ (elim there [
        | inl is_b ↦ absurd (omega (arith, first, same, ap (λ (c : Appointment). c.number) is_b, above-n (suc n) xs a rest later_a))
        | inr later_b ↦ one_of_number (suc n) xs a b rest later_a later_b same
      ])
    ]

-- two appointments of one member with one number are the same
same_appointment : (given : List Appointment) (a b : Appointment) (member : List ℕ) → are_numbered_after [] given ≡ true
    → In a given → In b given → same_name a.member member ≡ true → same_name b.member member ≡ true → a.number ≡ b.number → a ≡ b
same_appointment given a b member numbered here there own_a own_b =
    one_of_number 0 (filter (is_given_by member) given) a b (numbered_from-own member [] given numbered)
    (filter-In (is_given_by member) given a here own_a)
    (filter-In (is_given_by member) given b there own_b)

-- ---- the appointment that governs

-- what is left of what is found is what is found
filtered_is : {X : Type 0} (ended : X → Bool) (o : Option X) (x : X) → option_and_then (λ y. cond (ended y) None (Some y)) o ≡ Some x
    → o ≡ Some x
filtered_is ended None x h = h
filtered_is {X} ended (Some y) x h = one (ended y) h
  where
    one : (b : Bool) → cond b None (Some y) ≡ Some x → Some y ≡ Some x
    one true h = absurd (cc)
    one false h = h

-- and past the shares nothing is
share_is : {X : Type 0} (share : Bool) (o : Option X) (x : X) → cond share o None ≡ Some x → o ≡ Some x
share_is true o x h = h
share_is false o x h = absurd (cc)

-- what governs a share of the member's is an appointment of the member
governing-own : (cutoffs : Cutoffs) (shares : ℕ) (given : List Appointment) (ended : List Ending) (member : List ℕ) (place : ℕ) (a : Appointment)
    → governing_in cutoffs (holding_with shares given ended member) place ≡ Some a → Preserved (is_given_by member) given a
governing-own cutoffs shares given ended member place a governing =
    let holding = holding_with shares given ended member in
    let last = filtered_is (is_ended cutoffs holding) (last_over cutoffs holding place) a (share_is (has_share holding place) (option_and_then (unended cutoffs holding) (last_over cutoffs holding place)) a governing) in
    In-filter (is_given_by member) given a (In-reverse (filter (is_given_by member) given) a (In-find (is_over cutoffs place) (reverse (filter (is_given_by member) given)) a last))

-- ---- what governs passes a test

-- the appointment passes a test, is the member's, and has the number of the one found
abbrev is_found : (Appointment → Bool) → List ℕ → Option Appointment → Appointment → Bool
is_found test member found a =
    test a && (same_name member a.member && option_map_or (λ (b : Appointment). b.number == a.number) found false)

-- some appointment that passes is the one found exactly where the one found passes
found-passing : (given : List Appointment) (test : Appointment → Bool) (member : List ℕ) (found : Option Appointment) → are_numbered_after [] given ≡ true
    → ((a : Appointment) → found ≡ Some a → Preserved (is_given_by member) given a)
    → list_any (is_found test member found) given ≡ option_map_or test found false
found-passing given test member None numbered each =
    ap (λ passes. list_any passes given) (λ i (a : Appointment). nobody (test a) (same_name member a.member) i)
    ∙ any-none given
  where
    nobody : (a b : Bool) → (a && (b && false)) ≡ false
    nobody a b = ap (λ c. a && c) (and-false b) ∙ and-false a
found-passing given test member (Some b) numbered each =
    let own = each b refl in
    both_ways (list_any (is_found test member (Some b)) given) (test b)
    (λ some.
    let found = In-any (is_found test member (Some b)) given some in
    let a = found.0 in
    let passes = found.1.1 in
    let tested = first_so (test a) (same_name member a.member && b.number == a.number) passes in
    let rest = second_so (test a) (same_name member a.member && b.number == a.number) passes in
    let of_member = same_name-sym a.member member ∙ first_so (same_name member a.member) (b.number == a.number) rest in
    let number = eqb-true b.number a.number (second_so (same_name member a.member) (b.number == a.number) rest) in
    let same = same_appointment given b a member numbered own.here found.1.0 own.passes of_member number in
    ap test same ∙ tested)
    (λ tested.
    let of_member = same_name-sym member b.member ∙ own.passes in
    any-In (is_found test member (Some b)) given b own.here
    (and_from (test b) (same_name member b.member && b.number == b.number) tested
    (and_from (same_name member b.member) (b.number == b.number) of_member (eq-eqb b.number b.number refl))))

module _ (cutoffs : Cutoffs) (shares : ℕ) (given : List Appointment) (ended : List Ending) (member : List ℕ) where
  -- what an appointment of the member governs may be asked of the member
  of_the_member : (other : List ℕ) (number place : ℕ)
      → (same_name member other && governs cutoffs (holding_with shares given ended other) number place)
      ≡ (same_name member other && governs cutoffs (holding_with shares given ended member) number place)
  of_the_member other number place =
      (elim (same_name member other) as (λ b. same_name member other ≡ b
      → (b && governs cutoffs (holding_with shares given ended other) number place) ≡ (b && governs cutoffs (holding_with shares given ended member) number place)) [
        | true ↦ λ e. ap (λ name. governs cutoffs (holding_with shares given ended name) number place) (sym (same_name-true member other e))
        | false ↦ λ e. refl
      ]) refl

  -- some appointment that passes governs the place exactly where the one that governs it passes
  pub governing-passing : (test : Appointment → Bool) (place : ℕ) → are_numbered_after [] given ≡ true
      → list_any (λ a. test a && (same_name member a.member && governs cutoffs (holding_with shares given ended a.member) a.number place)) given
      ≡ option_map_or test (governing_in cutoffs (holding_with shares given ended member) place) false
  governing-passing test place numbered =
      ap (λ passes. list_any passes given)
      (λ i (a : Appointment). test a && of_the_member a.member a.number place i)
      ∙ found-passing given test member (governing_in cutoffs (holding_with shares given ended member) place) numbered
      (governing-own cutoffs shares given ended member place)
