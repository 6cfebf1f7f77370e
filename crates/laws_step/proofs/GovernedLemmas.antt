-- What governs by the rows of the members who named a party is what governs in the meeting.
use Rattle.std.proofs.Common.{◌≡◌, ℕ, ◌≤◌, Bool, true, false, not, ◌&&◌, ◌||◌, cond, List, [], ◌∷◌, filter, map, refl, sym, ap, ◌∙◌, arith}
use Rattle.std.specs.Prelude.{nat_le, find, reverse, Option, Some, None}
use Rattle.std.specs.Cmp.Derive.{both_true}
use Rattle.std.specs.List.{list_any}
use Rattle.std.specs.Option.{option_map_or, option_or}
use Rattle.std.proofs.lemmas.Bool.Decides.{nat_tests}
use Rattle.std.proofs.lemmas.List.{reverse-append}
use Rattle.std.proofs.lemmas.List.Folds.{find-append}
use Rattle.std.proofs.lemmas.Bool.{or_right}
use Rattle.seq.proofs.Filtered.{any-filter}
use Rattle.vocabulary.specs.declared.range.TheConstants.{MOST_PLACES}
use Rattle.vocabulary.specs.Names.{same_name}
use Rattle.desk_words.proofs.WordRowLemmas.{same_name-true, same_name-refl}
use Rattle.desk_words.specs.declared.office.MeetingLists.{MeetingLists}
use Rattle.desk_words.specs.declared.records.Appointment.{Appointment}
use Rattle.proxy_rules.specs.Governing.{governed_in}
use Rattle.proxy_rules.specs.Holdings.{IsValidHolding, claims_of, holding_of, is_given_by, is_valid_holding}
use Rattle.proxy_rules.specs.declared.holdings.Holding.{Holding}
use Rattle.proxy_rules.specs.declared.meeting_records.Cutoffs.{Cutoffs}
use Rattle.proxy_rules.proofs.ClaimLemmas.{governed_alike, valid_alike}
use Rattle.party_views.specs.OwnViews.{governed_by, governed_in_holding, rows_by}
use Rattle.party_views.specs.PartyRows.{parties_once, givers, member_in}
use Rattle.party_views.specs.declared.own_rows.MemberRows.{MemberRows}

-- what an office keeps passes the test of it
pub valid-is : (holding : Holding) → IsValidHolding holding → is_valid_holding holding ≡ true
valid-is holding preserved = both_true (both_true preserved.numbered preserved.tagged) (within holding.shares preserved.few)
  where
    within : (shares : ℕ) → shares ≤ MOST_PLACES → nat_le shares MOST_PLACES ≡ true
    within shares few = grind (arith, nat_tests)

-- two tests that answer alike for each appointment of a member who gave one
pub any-among : (p q : Appointment → Bool) (given : List Appointment) → ((a : Appointment) → list_any (is_given_by a.member) given ≡ true → p a ≡ q a) → list_any p given ≡ list_any q given
any-among p q [] same = refl
any-among p q (a ∷ rest) same =
    let head : p a ≡ q a = same a (ap (λ b. b || list_any (is_given_by a.member) rest) (same_name-refl a.member)) in
    let tail : list_any p rest ≡ list_any q rest = any-among p q rest (λ b h. same b (or_right (same_name a.member b.member) (list_any (is_given_by b.member) rest) h)) in
    λ i. head i || tail i

-- the name is the member's
abbrev pub of : List ℕ → List ℕ → Bool
of member name = same_name name member

-- the rows are the member's
abbrev of_rows : List ℕ → MemberRows → Bool
of_rows member rows = same_name rows.member member

-- what of two finds, where each gives one value or none
either-found : {X : Type 0} (a b : Bool) (x : X) (one other : Option X) → one ≡ cond a (Some x) None → other ≡ cond b (Some x) None → option_or one other ≡ cond (a || b) (Some x) None
either-found true b x one other h k = ap (λ o. option_or o other) h
either-found false b x one other h k = ap (λ o. option_or o other) h ∙ k

-- the rows of a member of the meeting are found among those of some members where it is one of them
rows-found : (m : MeetingLists) (names : List (List ℕ)) (member : List ℕ) → rows_by (map (member_in m) names) member ≡ cond (list_any (of member) names) (Some (member_in m member)) None
rows-found m [] member = refl
rows-found m (name ∷ names) member =
    let rest = rows-found m names member in
    ap (find (of_rows member)) (reverse-append (member_in m name ∷ []) (map (member_in m) names))
    ∙ find-append (of_rows member) (reverse (map (member_in m) names)) (member_in m name ∷ [])
    ∙ either-found (list_any (of member) names) (of member name) (member_in m member) _ _ rest (one name)
    ∙ ap (λ b. cond b (Some (member_in m member)) None) (turned (list_any (of member) names) (of member name))
  where
    one : (name : List ℕ) → find (of_rows member) (member_in m name ∷ []) ≡ cond (of member name) (Some (member_in m member)) None
    one name = (elim (of member name) as (λ b. of member name ≡ b → cond b (Some (member_in m name)) None ≡ cond b (Some (member_in m member)) None) [
      | true ↦ λ same. ap (λ n. Some (member_in m n)) (same_name-true name member same)
      | false ↦ λ _. refl
    ]) refl

    turned : (a b : Bool) → (a || b) ≡ (b || a)
    turned true true = refl
    turned true false = refl
    turned false true = refl
    turned false false = refl

-- each once they are the same parties
pub any-each_once : (member : List ℕ) (names : List (List ℕ)) → list_any (of member) (parties_once names) ≡ list_any (of member) names
any-each_once member [] = refl
any-each_once member (name ∷ names) =
    (elim (of member name) as (λ b. of member name ≡ b
    → (b || list_any (of member) (filter (λ other. not (same_name other name)) (parties_once names))) ≡ (b || list_any (of member) names)) [
      | true ↦ λ _. refl
      | false ↦ λ unlike.
          any-filter (of member) (λ other. not (same_name other name)) (parties_once names)
          ∙ ap (λ test. list_any test (parties_once names)) (λ i other. apart name unlike other i)
          ∙ any-each_once member names
    ]) refl
  where
    apart : (name : List ℕ) → of member name ≡ false → (other : List ℕ) → (not (same_name other name) && of member other) ≡ of member other
    apart name unlike other = (elim (same_name other name) as (λ c. same_name other name ≡ c → (not c && of member other) ≡ of member other) [
      | true ↦ λ same. sym unlike ∙ ap (of member) (sym (same_name-true other name same))
      | false ↦ λ _. refl
    ]) refl

pub any-givers : (member : List ℕ) (given : List Appointment) → list_any (of member) (map (λ (a : Appointment). a.member) given) ≡ list_any (is_given_by member) given
any-givers member [] = refl
any-givers member (a ∷ given) = ap (λ b. same_name a.member member || b) (any-givers member given)

-- what an appointment governs by the rows of those who gave some appointments it governs in the meeting, where its member is one of them
pub governed-by_member : (m : MeetingLists) (cutoffs : Cutoffs) (given : List Appointment) (member : List ℕ) (number : ℕ) → is_valid_holding (holding_of m.register m.appointments m.endings member) ≡ true
    → list_any (is_given_by member) given ≡ true
    → governed_by (map (member_in m) (givers given)) cutoffs member number ≡ governed_in cutoffs (holding_of m.register m.appointments m.endings member) number
governed-by_member m cutoffs given member number preserved among =
    let holding = holding_of m.register m.appointments m.endings member in
    let there : list_any (of member) (givers given) ≡ true = any-each_once member (map (λ (a : Appointment). a.member) given) ∙ any-givers member given ∙ among in
    let found = rows-found m (givers given) member ∙ ap (λ b. cond b (Some (member_in m member)) None) there in
    ap (λ (o : Option MemberRows). option_map_or (λ (rows : MemberRows). governed_in_holding cutoffs rows.holding number) o []) found
    ∙ ap (λ b. cond b (governed_in cutoffs (claims_of holding) number) []) (valid_alike holding ∙ preserved)
    ∙ governed_alike cutoffs holding number
