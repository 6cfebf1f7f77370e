-- Keys that the order does not tell apart are those of records that are alike.
use Rattle.std.proofs.Common.{◌≡◌, ℕ, Bool, true, ◌&&◌, ◌==◌, List, Ordering, Less, Equal, Greater, refl, ap, sym, ◌∙◌}
use Rattle.std.specs.Cmp.{both_ways}
use Rattle.std.specs.Cmp.Derive.{both_true}
use Rattle.std.specs.Cmp.Lexicographic.{texts_ties}
use Rattle.std.specs.Ordering.{is_eq, nat_cmp, ordering_then}
use Rattle.std.proofs.lemmas.Bool.{eq-eqb, eqb-true}
use Rattle.std.proofs.Math.Bool.{and_comm}
use Rattle.seq.proofs.Numbers.{is_eq-nat_cmp}
use Rattle.vocabulary.specs.Names.{same_name, name_cmp}
use Rattle.desk_words.proofs.WordRowLemmas.{same_name-true, same_name-refl}
use Rattle.desk_words.specs.declared.office.MeetingLists.{MeetingLists}
use Rattle.desk_words.specs.declared.records.Authority.{Authority}
use Rattle.desk_words.specs.declared.records.DemandMark.{DemandMark}
use Rattle.desk_words.specs.declared.records.Ending.{Ending}
use Rattle.desk_words.specs.declared.records.PresenceMark.{PresenceMark}
use Rattle.desk_words.specs.Office.{same_authority, same_demand, same_ending, same_meeting, same_presence}

pub name-ties : (a b : List ℕ) → is_eq (name_cmp a b) ≡ same_name a b
name-ties a b = sym (texts_ties a b)

pub number_and_name : (m n : ℕ) (a b : List ℕ) → (is_eq (nat_cmp m n) && is_eq (name_cmp a b)) ≡ (m == n && same_name a b)
number_and_name m n a b = ap (λ x. x && is_eq (name_cmp a b)) (is_eq-nat_cmp m n) ∙ ap (λ x. m == n && x) (name-ties a b)

pub ending-ties : (d e : Ending) → (is_eq (nat_cmp d.number e.number) && is_eq (name_cmp d.member e.member)) ≡ same_ending d e
ending-ties d e = number_and_name d.number e.number d.member e.member ∙ and_comm (d.number == e.number) (same_name d.member e.member)

pub authority-ties : (a b : Authority) → (is_eq (name_cmp a.person b.person) && is_eq (name_cmp a.corporation b.corporation)) ≡ same_authority a b
authority-ties a b =
    ap (λ x. x && is_eq (name_cmp a.corporation b.corporation)) (name-ties a.person b.person)
    ∙ ap (λ x. same_name a.person b.person && x) (name-ties a.corporation b.corporation)
    ∙ and_comm (same_name a.person b.person) (same_name a.corporation b.corporation)

pub presence-ties : (m n : PresenceMark) → (is_eq (nat_cmp m.session n.session) && is_eq (name_cmp m.party n.party)) ≡ same_presence m n
presence-ties m n = number_and_name m.session n.session m.party n.party

-- two numbers are compared one after the other
both_numbers : (m n k l : ℕ) → is_eq (ordering_then (nat_cmp m n) (nat_cmp k l)) ≡ (m == n && k == l)
both_numbers m n k l = go (nat_cmp m n) (nat_cmp k l) ∙ (λ i. is_eq-nat_cmp m n i && is_eq-nat_cmp k l i)
  where
    go : (a b : Ordering) → is_eq (ordering_then a b) ≡ (is_eq a && is_eq b)
    go Less b = refl
    go Equal b = refl
    go Greater b = refl

pub demand-ties : (d e : DemandMark) → (is_eq (ordering_then (nat_cmp d.session e.session) (nat_cmp d.resolution e.resolution)) && is_eq (name_cmp d.party e.party)) ≡ same_demand d e
demand-ties d e =
    ap (λ x. x && is_eq (name_cmp d.party e.party)) (both_numbers d.session e.session d.resolution e.resolution)
    ∙ ap (λ x. (d.session == e.session && d.resolution == e.resolution) && x) (name-ties d.party e.party)

-- ---- a likeness is reflexive and symmetric

turned-one : (a b : List ℕ) → same_name a b ≡ true → same_name b a ≡ true
turned-one a b h = ap (λ x. same_name x a) (sym (same_name-true a b h)) ∙ same_name-refl a

name-turned : (a b : List ℕ) → same_name a b ≡ same_name b a
name-turned a b = both_ways _ _ (turned-one a b) (turned-one b a)

number-self : (n : ℕ) → (n == n) ≡ true
number-self n = eq-eqb n n refl

number-turned-one : (m n : ℕ) → (m == n) ≡ true → (n == m) ≡ true
number-turned-one m n h = eq-eqb n m (sym (eqb-true m n h))

number-turned : (m n : ℕ) → (m == n) ≡ (n == m)
number-turned m n = both_ways _ _ (number-turned-one m n) (number-turned-one n m)

pub ending-self : (e : Ending) → same_ending e e ≡ true
ending-self e = both_true (same_name-refl e.member) (number-self e.number)

pub ending-turned : (d e : Ending) → same_ending d e ≡ same_ending e d
ending-turned d e = λ i. name-turned d.member e.member i && number-turned d.number e.number i

pub authority-self : (a : Authority) → same_authority a a ≡ true
authority-self a = both_true (same_name-refl a.corporation) (same_name-refl a.person)

pub authority-turned : (a b : Authority) → same_authority a b ≡ same_authority b a
authority-turned a b = λ i. name-turned a.corporation b.corporation i && name-turned a.person b.person i

pub presence-self : (m : PresenceMark) → same_presence m m ≡ true
presence-self m = both_true (number-self m.session) (same_name-refl m.party)

pub presence-turned : (m n : PresenceMark) → same_presence m n ≡ same_presence n m
presence-turned m n = λ i. number-turned m.session n.session i && name-turned m.party n.party i

pub demand-self : (d : DemandMark) → same_demand d d ≡ true
demand-self d = both_true (both_true (number-self d.session) (number-self d.resolution)) (same_name-refl d.party)

pub demand-turned : (d e : DemandMark) → same_demand d e ≡ same_demand e d
demand-turned d e = λ i. (number-turned d.session e.session i && number-turned d.resolution e.resolution i) && name-turned d.party e.party i

pub meeting-self : (m : MeetingLists) → same_meeting m m ≡ true
meeting-self m = same_name-refl m.meeting.id

pub meeting-turned : (m n : MeetingLists) → same_meeting m n ≡ same_meeting n m
meeting-turned m n = name-turned m.meeting.id n.meeting.id
