-- Appointments that are numbered 1, 2, .. by member.
use Rattle.std.proofs.Common.{◌≡◌, ℕ, zero, suc, ◌+◌, ◌-◌, ◌<◌, ◌≤◌, Bool, true, false, cond, ◌&&◌, ◌||◌, ◌==◌, List, [], ◌∷◌, ◌++◌, length, get_or, take, drop, refl, ap, sym, ◌∙◌, subst, arith, add-one, append_assoc}
use Rattle.std.specs.Prelude.{count_by, nat_le, nat_lt}
use Rattle.std.specs.List.{list_any}
use Rattle.std.specs.Cmp.{first_so, second_so}
use Rattle.std.proofs.Math.Seq.{drop-cons, take-suc}
use Rattle.std.proofs.lemmas.Bool.{eqb-true}
use Rattle.std.proofs.lemmas.Bool.Decides.{nat_tests}
use Rattle.std.proofs.lemmas.List.Sums.{sum_by-append}
use Rattle.seq.proofs.Differing.{count_snoc}
use Rattle.keyed_seq.specs.Positions.{has_first, places_passing}
use Rattle.vocabulary.specs.Names.{same_name, name_cmp}
use Rattle.desk_words.proofs.WordRowLemmas.{same_name-true, same_name-refl}
use Rattle.desk_words.specs.Office.{are_numbered_after, is_ending_of}
use Rattle.desk_words.specs.declared.records.Appointment.{Appointment}
use Rattle.desk_words.specs.declared.records.Ending.{Ending}
use Rattle.office_validation.proofs.ValidKeyLemmas.{length-places_that}
use Rattle.office_validation.proofs.RankLemmas.{StandsAt, ranked, stands}
use Rattle.office_validation.proofs.TieLemmas.{name-ties}

-- the appointment is the member's
abbrev pub is_of : List ℕ → Appointment → Bool
is_of member a = same_name a.member member

-- one appointment more is numbered behind those before it
pub numbered-more : (given : List Appointment) (i : ℕ) (d : Appointment) → i < length given
    → are_numbered_after (take i given) (drop i given)
    ≡ ((get_or given i d).number == suc (count_by (is_of (get_or given i d).member) (take i given)) && are_numbered_after (take (i + 1) given) (drop (i + 1) given))
numbered-more given i d within =
    ap (are_numbered_after (take i given)) (drop-cons given i d within)
    ∙ ap (λ earlier. (get_or given i d).number == suc (count_by (is_of (get_or given i d).member) (take i given)) && are_numbered_after earlier (drop (suc i) given)) (sym (take-suc given i d within))
    ∙ rw add-one refl

count-before : (member : List ℕ) (earlier : List Appointment) (a : Appointment) (rest : List Appointment)
    → count_by (is_of member) (earlier ++ a ∷ []) ≤ count_by (is_of member) (earlier ++ a ∷ rest)
count-before member earlier a rest =
    let whole : (earlier ++ a ∷ []) ++ rest ≡ earlier ++ a ∷ rest = append_assoc earlier (a ∷ []) rest in
    let counts = ap (count_by (is_of member)) (sym whole) ∙ sum_by-append (λ b. cond (is_of member b) 1 0) (earlier ++ a ∷ []) rest in
    omega (arith, counts)

here : (k n number whole : ℕ) → number ≡ suc k → suc k ≤ whole → ((number == n) || (nat_lt (k + 1) n && nat_le n whole)) ≡ (nat_lt k n && nat_le n whole)
here k n number whole is within = grind (arith, nat_tests)

elsewhere : (k n whole : ℕ) → (nat_lt (k + 0) n && nat_le n whole) ≡ (nat_lt k n && nat_le n whole)
elsewhere k n whole = grind (arith, nat_tests)

nowhere : (k n whole : ℕ) → whole ≡ k → false ≡ (nat_lt k n && nat_le n whole)
nowhere k n whole same = grind (arith, nat_tests)

-- a number that is above the member's earlier ones, and no greater than the last, is that of an appointment
any-numbered : (e : Ending) (earlier given : List Appointment) → are_numbered_after earlier given ≡ true
    → list_any (is_ending_of e) given ≡ (nat_lt (count_by (is_of e.member) earlier) e.number && nat_le e.number (count_by (is_of e.member) (earlier ++ given)))
any-numbered e earlier [] h =
    let none = sum_by-append (λ b. cond (is_of e.member b) 1 0) earlier [] in
    nowhere (count_by (is_of e.member) earlier) e.number (count_by (is_of e.member) (earlier ++ [])) (omega (arith, none))
any-numbered e earlier (a ∷ rest) h =
    let now = eqb-true a.number (suc (count_by (is_of a.member) earlier)) (first_so (a.number == suc (count_by (is_of a.member) earlier)) (are_numbered_after (earlier ++ a ∷ []) rest) h) in
    let whole : (earlier ++ a ∷ []) ++ rest ≡ earlier ++ a ∷ rest = append_assoc earlier (a ∷ []) rest in
    let later : list_any (is_ending_of e) rest ≡ (nat_lt (count_by (is_of e.member) (earlier ++ a ∷ [])) e.number && nat_le e.number (count_by (is_of e.member) (earlier ++ a ∷ rest))) =
    any-numbered e (earlier ++ a ∷ []) rest (second_so (a.number == suc (count_by (is_of a.member) earlier)) (are_numbered_after (earlier ++ a ∷ []) rest) h)
    ∙ ap (λ l. nat_lt (count_by (is_of e.member) (earlier ++ a ∷ [])) e.number && nat_le e.number (count_by (is_of e.member) l)) whole in
    let last = count_by (is_of e.member) (earlier ++ a ∷ rest) in
    let one = count_snoc (is_of e.member) earlier a in
    let above = count-before e.member earlier a rest in
    ap (λ b. is_ending_of e a || b) later
    ∙ ap (λ k. is_ending_of e a || (nat_lt k e.number && nat_le e.number last)) one
    ∙ ((elim (same_name a.member e.member) as (λ b. same_name a.member e.member ≡ b
    → ((b && a.number == e.number) || (nat_lt (count_by (is_of e.member) earlier + cond b 1 0) e.number && nat_le e.number last)) ≡ (nat_lt (count_by (is_of e.member) earlier) e.number && nat_le e.number last)) [
      | true ↦ λ same.
          let is : a.number ≡ suc (count_by (is_of e.member) earlier) = now ∙ ap (λ m. suc (count_by (is_of m) earlier)) (same_name-true a.member e.member same) in
          let top : count_by (is_of e.member) (earlier ++ a ∷ []) ≡ count_by (is_of e.member) earlier + 1 = one ∙ ap (λ b. count_by (is_of e.member) earlier + cond b 1 0) same in
          here (count_by (is_of e.member) earlier) e.number a.number last is (omega (arith, top, above))
      | false ↦ λ other. elsewhere (count_by (is_of e.member) earlier) e.number last
    ]) refl)

-- an ending names one of the member's own appointments exactly where its number is none of theirs that is too great
pub any-of_own : (e : Ending) (given : List Appointment) (own : ℕ) → are_numbered_after [] given ≡ true → own ≡ count_by (is_of e.member) given
    → list_any (is_ending_of e) given ≡ (nat_lt 0 e.number && nat_le e.number own)
any-of_own e given own h many = any-numbered e [] given h ∙ ap (λ n. nat_lt 0 e.number && nat_le e.number n) (sym many)

-- the member's own appointments are as many as their places
pub own-places : (member : List ℕ) (given : List Appointment) (places : List ℕ) → places ≡ places_passing (has_first name_cmp (λ (a : Appointment). a.member) member) given → length places ≡ count_by (is_of member) given
own-places member given places are =
    ap length are
    ∙ length-places_that (has_first name_cmp (λ (a : Appointment). a.member) member) given
    ∙ ap (λ test. count_by test given) (λ i a. name-ties a.member member i)

by_place : (k rank i : ℕ) (ps : List ℕ) → StandsAt ps rank i → ((j : ℕ) → j < length ps → get_or ps j 0 ≡ i → j ≡ rank)
    → (suc k == suc rank) ≡ (nat_le 1 (suc k) && nat_le (suc k) (length ps) && (get_or ps k 0 == i))
by_place k rank i ps at only =
    (elim (k == rank) as (λ b. (k == rank) ≡ b → (suc k == suc rank) ≡ (nat_le 1 (suc k) && nat_le (suc k) (length ps) && (get_or ps k 0 == i))) [
      | true ↦ λ same.
          let is = eqb-true k rank same in
          let there : get_or ps k 0 ≡ i = ap (λ j. get_or ps j 0) is ∙ at.there in
          grind (arith, nat_tests, is, there, at.within)
      | false ↦ λ other.
          let apart : (k < length ps) → get_or ps k 0 ≡ i → ⊥ = λ h there. (let is = only k h there in absurd (grind (arith, nat_tests, is, other))) in
          grind (arith, nat_tests, other, apart)
    ]) refl

-- a number is that of the rank exactly where it leads to the place
by_rank : (n rank i : ℕ) (ps : List ℕ) → StandsAt ps rank i → ((k : ℕ) → k < length ps → get_or ps k 0 ≡ i → k ≡ rank)
    → (n == suc rank) ≡ (nat_le 1 n && nat_le n (length ps) && (get_or ps (n - 1) 0 == i))
by_rank zero rank i ps at only = grind (arith, nat_tests)
by_rank (suc k) rank i ps at only =
    let before : k ≡ suc k - 1 = omega arith in
    by_place k rank i ps at only ∙ ap (λ j. nat_le 1 (suc k) && nat_le (suc k) (length ps) && (get_or ps j 0 == i)) before

-- an appointment has the number after those of its member's earlier ones exactly where its place is the one of that number among the member's
pub numbered-at : (given : List Appointment) (places : List ℕ) (i : ℕ) (a : Appointment) → places ≡ places_passing (has_first name_cmp (λ (b : Appointment). b.member) a.member) given
    → i < length given → get_or given i a ≡ a
    → (a.number == suc (count_by (is_of a.member) (take i given))) ≡ (nat_le 1 a.number && nat_le a.number (length places) && (get_or places (a.number - 1) 0 == i))
numbered-at given places i a are within is =
    let test = is_of a.member in
    let own : places ≡ places_passing test given = are ∙ ap (λ t. places_passing t given) (λ j b. name-ties b.member a.member j) in
    let rank = count_by test (take i given) in
    let at = stands test given i a within (ap (λ (b : Appointment). same_name b.member a.member) is ∙ same_name-refl a.member) in
    let P : List ℕ → Type 0 = λ ps. (a.number == suc rank) ≡ (nat_le 1 a.number && nat_le a.number (length ps) && (get_or ps (a.number - 1) 0 == i)) in
    subst P (sym own) (by_rank a.number rank i (places_passing test given) at (λ k h same. sym (ranked test given k h) ∙ ap (λ p. count_by test (take p given)) same))

-- whether the others go on is whether the next has its number and those after it go on
pub numbered-step : (given items : List Appointment) (i : ℕ) (a : Appointment) (right : Bool) → items ≡ given → i < length items → a ≡ get_or items i a
    → right ≡ (a.number == suc (count_by (is_of a.member) (take i given)))
    → are_numbered_after (take i items) (drop i items) ≡ (right && are_numbered_after (take (i + 1) items) (drop (i + 1) items))
numbered-step given items i a right same within is told =
    let rest = are_numbered_after (take (i + 1) items) (drop (i + 1) items) in
    numbered-more items i a within
    ∙ ap (λ (x : Appointment). (x.number == suc (count_by (is_of x.member) (take i items))) && rest) (sym is)
    ∙ ap (λ l. (a.number == suc (count_by (is_of a.member) (take i l))) && rest) same
    ∙ ap (λ b. b && rest) (sym told)
