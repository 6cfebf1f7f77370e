-- What one appointment governs beside those that were received after it.
use Rattle.std.proofs.Common.{◌≡◌, ℕ, zero, suc, ◌+◌, ◌-◌, ◌<◌, ◌≤◌, min, Bool, true, false, not, cond, List, [], ◌∷◌, ◌++◌, length, take, drop, refl, sym, ap, ◌∙◌, arith, inl, inr}
use Rattle.std.specs.Prelude.{◌⊎◌, ◌&&◌, ◌||◌, ◌==◌, nat_le, Option, Some, None, find, reverse, option_and_then}
use Rattle.std.specs.List.{list_any, slice_get}
use Rattle.std.specs.Option.{option_map_or, option_or}
use Rattle.std.specs.Cmp.{first_so, second_so}
use Rattle.std.proofs.lemmas.Bool.{and_from, and_parts, cases_lt, eq-eqb, eqb-true, le-leb, leb-true, ne_eqb}
use Rattle.std.proofs.lemmas.Bool.Decides.{nat_tests}
use Rattle.std.proofs.lemmas.List.{append-nil, length-drop, reverse-append, take_all}
use Rattle.std.proofs.lemmas.List.Folds.{find-append, list_any-append}
use Rattle.std.proofs.Math.Bool.{or_comm}
use Rattle.seq.proofs.Filtered.{found-any, found-passes, none-found}
use Rattle.vocabulary.specs.Places.{Places, holds, is_range}
use Rattle.vocabulary.specs.declared.range.TheConstants.{MOST_PLACES}
use Rattle.desk_words.specs.declared.records.Appointment.{Appointment}
use Rattle.desk_words.specs.declared.records.Ending.{Ending}
use Rattle.proxy_rules.specs.Alone.{holding_from, is_left, is_taken}
use Rattle.proxy_rules.specs.Governing.{ends, governed_in, governs, is_ended, is_over, unended}
use Rattle.proxy_rules.specs.Holdings.{are_numbered_from}
use Rattle.proxy_rules.specs.GoverningLaws.{has_number}
use Rattle.proxy_rules.specs.PlaceRuns.{joined, runs_that}
use Rattle.proxy_rules.specs.Shares.{is_share}
use Rattle.proxy_rules.specs.declared.holdings.Holding.{Holding}
use Rattle.proxy_rules.specs.declared.meeting_records.Cutoffs.{Cutoffs}
use Rattle.proxy_rules.proofs.GovernedRuns.{any-reversed, earlier_nothing, ended_or_not, none_past, not_found}
use Rattle.proxy_rules.proofs.ProxyRunLemmas.{runs_that-alike, runs_that-stretch}

-- ---- runs of places that pass or fail alike

-- where none passes there are no runs
pub runs_that-none : (test : ℕ → Bool) (n : ℕ) → ((place : ℕ) → 1 ≤ place → place ≤ n → test place ≡ false) → runs_that test n ≡ []
runs_that-none test zero none = refl
runs_that-none test (suc n) none =
    ap (λ b. cond b (joined (runs_that test n) (record { from = suc n; to = suc n })) (runs_that test n)) (none (suc n) (omega arith) (omega arith))
    ∙ runs_that-none test n (λ place low high. none place low (omega arith))

-- places behind the last that passes add no run
pub runs_that-behind : (test : ℕ → Bool) (n m : ℕ) → n ≤ m → ((place : ℕ) → n < place → place ≤ m → test place ≡ false) → runs_that test m ≡ runs_that test n
runs_that-behind test n m up none = elim (cases_lt n m) [
  | inl lower ↦ runs_that-stretch test false n m lower none
  | inr upper ↦ let e : m ≡ n = omega arith in ap (runs_that test) e
]

-- ---- what governs a place of an appointment and of those that were received after it

one_alone : (has_ended : Appointment → Bool) (share over : Bool) (number : ℕ) (a : Appointment) → a.number ≡ number
    → option_map_or (has_number number) (cond share (option_and_then (λ x. cond (has_ended x) None (Some x)) (cond over (Some a) None)) None) false ≡ (share && (over && not (has_ended a)))
one_alone has_ended false over number a same = refl
one_alone has_ended true false number a same = refl
one_alone has_ended true true number a same =
    elim (has_ended a) as (λ b. option_map_or (has_number number) (cond b None (Some a)) false ≡ not b) [
      | true ↦ refl
      | false ↦ eq-eqb a.number number same
    ]

any-turned : (p : Appointment → Bool) (xs : List Appointment) → list_any p (reverse xs) ≡ list_any p xs
any-turned p [] = refl
any-turned p (x ∷ xs) =
    ap (list_any p) (reverse-append (x ∷ []) xs)
    ∙ list_any-append p (reverse xs) (x ∷ [])
    ∙ or_comm (list_any p (reverse xs)) (p x || false)
    ∙ one_first (p x) (list_any p (reverse xs))
    ∙ ap (λ b. p x || b) (any-turned p xs)
  where
    one_first : (a b : Bool) → ((a || false) || b) ≡ (a || b)
    one_first true b = refl
    one_first false b = refl

module _ (cutoffs : Cutoffs) (shares : ℕ) (a : Appointment) (later : List Appointment) (ended : List Ending) (none : list_any (has_number a.number) later ≡ false) where
  abbrev holding : Holding
  holding = holding_from shares a later ended

  abbrev ended_too : Bool
  ended_too = list_any (ends cutoffs a.number) ended

  by_last : (place : ℕ) (o : Option Appointment) → find (is_over cutoffs place) (reverse later) ≡ o
      → option_map_or (has_number a.number) (cond (is_share shares place) (option_and_then (unended cutoffs holding) (option_or o (find (is_over cutoffs place) (a ∷ [])))) None) false
      ≡ (is_share shares place && (not (is_taken cutoffs later place) && (is_over cutoffs place a && not ended_too)))
  by_last place None found =
      let taken : is_taken cutoffs later place ≡ false = sym (any-turned (is_over cutoffs place) later) ∙ none-found (is_over cutoffs place) (reverse later) found in
      one_alone (is_ended cutoffs holding) (is_share shares place) (is_over cutoffs place a) a.number a refl
      ∙ ap (λ b. is_share shares place && (not b && (is_over cutoffs place a && not ended_too))) (sym taken)
  by_last place (Some b) found =
      let taken : is_taken cutoffs later place ≡ true =
      sym (any-turned (is_over cutoffs place) later) ∙ found-any (is_over cutoffs place) (is_over cutoffs place) (reverse later) b found (found-passes (is_over cutoffs place) (reverse later) b found) in
      let other : has_number a.number b ≡ false =
      ap (λ o. option_map_or (has_number a.number) o false) (sym found) ∙ not_found (is_over cutoffs place) a.number (reverse later) (any-reversed a.number later none) in
      ended_or_not (is_share shares place) (is_ended cutoffs holding b) a.number b other
      ∙ no_share (is_share shares place)
      ∙ ap (λ t. is_share shares place && (not t && (is_over cutoffs place a && not ended_too))) (sym taken)
    where
      no_share : (share : Bool) → false ≡ (share && false)
      no_share true = refl
      no_share false = refl

  -- it governs the places that it is over and none takes, unless it is ended
  pub governs_alone : (place : ℕ)
      → governs cutoffs holding a.number place ≡ (is_share shares place && (not (is_taken cutoffs later place) && (is_over cutoffs place a && not ended_too)))
  governs_alone place =
      ap (λ o. option_map_or (has_number a.number) (cond (is_share shares place) (option_and_then (unended cutoffs holding) o) None) false)
      (ap (find (is_over cutoffs place)) (reverse-append (a ∷ []) later) ∙ find-append (is_over cutoffs place) (reverse later) (a ∷ []))
      ∙ by_last place (find (is_over cutoffs place) (reverse later)) refl

  unless_over : (share taken over is_ended : Bool) → (over && not is_ended) ≡ false → (share && (not taken && (over && not is_ended))) ≡ false
  unless_over share taken over is_ended fails = ap (λ b. share && (not taken && b)) fails ∙ nothing share taken
    where
      nothing : (share taken : Bool) → (share && (not taken && false)) ≡ false
      nothing true true = refl
      nothing true false = refl
      nothing false taken = refl

  -- where it is ended, or does not count, it governs nothing
  pub governs_nothing : ((place : ℕ) → 1 ≤ place → place ≤ shares → (is_over cutoffs place a && not ended_too) ≡ false) → governed_in cutoffs holding a.number ≡ []
  governs_nothing fails =
      runs_that-none (governs cutoffs holding a.number) shares
      (λ place low high. governs_alone place ∙ unless_over (is_share shares place) (is_taken cutoffs later place) (is_over cutoffs place a) ended_too (fails place low high))

  left_only : (share taken over is_ended held : Bool) → share ≡ true → is_ended ≡ false → over ≡ held → (share && (not taken && (over && not is_ended))) ≡ (not taken && held)
  left_only share taken over is_ended held is_share unended same =
      ap (λ b. b && (not taken && (over && not is_ended))) is_share
      ∙ ap (λ b. not taken && (over && not b)) unended
      ∙ ap (λ b. not taken && b) (and_true over ∙ same)
    where
      and_true : (b : Bool) → (b && true) ≡ b
      and_true true = refl
      and_true false = refl

  -- where it counts and is not ended, it governs what is left of its places
  pub governs_left : (last : ℕ) → last ≡ min shares a.range.to → nat_le a.moment cutoffs.appointments ≡ true → ended_too ≡ false
      → runs_that (is_left cutoffs later (record { from = a.range.from; to = last })) last ≡ governed_in cutoffs holding a.number
  governs_left last is counts unended =
      let low : last ≤ shares = omega (arith, is) in
      let below : last ≤ a.range.to = omega (arith, is) in
      let either : (n : ℕ) → last < n → n ≤ shares → a.range.to < n = λ n past high. omega (arith, is) in
      runs_that-alike (is_left cutoffs later (record { from = a.range.from; to = last })) (governs cutoffs holding a.number) last
      (λ place one high. sym (governs_alone place
      ∙ left_only (is_share shares place) (is_taken cutoffs later place) (is_over cutoffs place a) ended_too (holds (record { from = a.range.from; to = last }) place)
      (within place one (omega (arith, low))) unended
      (ap (λ b. b && holds a.range place) counts ∙ both_hold place last high below)))
      ∙ sym (runs_that-behind (governs cutoffs holding a.number) last shares low
      (λ place past high. governs_alone place ∙ unless_over (is_share shares place) (is_taken cutoffs later place) (is_over cutoffs place a) ended_too
      (past_range place (either place past high))))
    where
      within : (place : ℕ) → 1 ≤ place → place ≤ shares → is_share shares place ≡ true
      within place one high = grind (arith, nat_tests)

      both_hold : (place last : ℕ) → place ≤ last → last ≤ a.range.to → holds a.range place ≡ holds (record { from = a.range.from; to = last }) place
      both_hold place last high below = grind (arith, nat_tests)

      past_range : (place : ℕ) → a.range.to < place → (is_over cutoffs place a && not ended_too) ≡ false
      past_range place past = let fails : is_over cutoffs place a ≡ false = grind (arith, nat_tests) in ap (λ b. b && not ended_too) fails

-- ---- an appointment among those that are numbered 1, 2, ..

-- none before the first number, and none past the last
pub none_below : (n number : ℕ) (xs : List Appointment) → are_numbered_from n xs ≡ true → number ≤ n → list_any (has_number number) xs ≡ false
none_below n number [] all low = refl
none_below n number (x ∷ xs) all low =
    let here : x.number ≡ suc n = eqb-true x.number (suc n) (first_so (x.number == suc n) (are_numbered_from (suc n) xs) all) in
    let rest = none_below (suc n) number xs (second_so (x.number == suc n) (are_numbered_from (suc n) xs) all) (omega arith) in
    ap (λ b. b || list_any (has_number number) xs) (ne_eqb x.number number (apart x.number n number here low)) ∙ rest
  where
    apart : (a n number : ℕ) → a ≡ suc n → number ≤ n → a ≡ number → ⊥
    apart a n number e low same = omega arith

pub none_above : (n number : ℕ) (xs : List Appointment) → are_numbered_from n xs ≡ true → n + length xs < number → list_any (has_number number) xs ≡ false
none_above n number [] all high = refl
none_above n number (x ∷ xs) all high =
    let here : x.number ≡ suc n = eqb-true x.number (suc n) (first_so (x.number == suc n) (are_numbered_from (suc n) xs) all) in
    let rest = none_above (suc n) number xs (second_so (x.number == suc n) (are_numbered_from (suc n) xs) all) (omega arith) in
    ap (λ b. b || list_any (has_number number) xs) (ne_eqb x.number number (apart x.number n (length xs) number here high)) ∙ rest
  where
    apart : (a n m number : ℕ) → a ≡ suc n → n + suc m < number → a ≡ number → ⊥
    apart a n m number e high same = omega arith

-- where it stands, with those before it and those after it
pub record Stands (n : ℕ) (xs : List Appointment) (place : ℕ) (a : Appointment) : Type 0 where
  pub number : a.number ≡ n + place + 1
  pub before : list_any (has_number a.number) (take place xs) ≡ false
  pub after : list_any (has_number a.number) (drop (suc place) xs) ≡ false
  pub parts : xs ≡ take place xs ++ a ∷ drop (suc place) xs

pub stands : (n : ℕ) (xs : List Appointment) (place : ℕ) (a : Appointment) → are_numbered_from n xs ≡ true → slice_get xs place ≡ Some a → Stands n xs place a
stands n [] place a all there = absurd (cc)
stands n (x ∷ xs) zero a all there =
    let same : x ≡ a = ap (λ o. option_map_or (λ y. y) o x) there in
    let here : x.number ≡ suc n = eqb-true x.number (suc n) (first_so (x.number == suc n) (are_numbered_from (suc n) xs) all) in
    let number = ap (λ (y : Appointment). y.number) same in
    record {
      number = omega (arith, here, number);
      before = refl;
      after = none_below (suc n) a.number xs (second_so (x.number == suc n) (are_numbered_from (suc n) xs) all) (omega (arith, here, number));
      parts = ap (λ y. y ∷ xs) same;
    }
stands n (x ∷ xs) (suc place) a all there =
    let rest = stands (suc n) xs place a (second_so (x.number == suc n) (are_numbered_from (suc n) xs) all) there in
    let here : x.number ≡ suc n = eqb-true x.number (suc n) (first_so (x.number == suc n) (are_numbered_from (suc n) xs) all) in
    record {
      number = omega (arith, rest.number);
      before = ap (λ b. b || list_any (has_number a.number) (take place xs)) (ne_eqb x.number a.number (apart x.number a.number n place here rest.number)) ∙ rest.before;
      after = rest.after;
      parts = ap (λ l. x ∷ l) rest.parts;
    }
  where
    apart : (x a n place : ℕ) → x ≡ suc n → a ≡ suc n + place + 1 → x ≡ a → ⊥
    apart x a n place e f same = omega arith

-- ---- a loop over what was received later

-- no place from one to an end is taken
pub record IsFreeTo (cutoffs : Cutoffs) (appointed : List Appointment) (place last end : ℕ) : Type 0 where
  pub from : place ≤ end
  pub to : end ≤ last
  pub free : (other : ℕ) → place ≤ other → other ≤ end → is_taken cutoffs appointed other ≡ false

-- the runs of what is left of a range before a place
pub record IsLeftTo (cutoffs : Cutoffs) (later : List Appointment) (range : Places) (next : ℕ) (runs : List Places) : Type 0 where
  pub begun : range.from ≤ next
  pub within : next ≤ range.to + 1
  pub made : runs ≡ runs_that (is_left cutoffs later range) (next - 1)

-- one that takes a place takes all from it to its own last
pub taken_through : (cutoffs : Cutoffs) (later : List Appointment) (place to : ℕ) (a : Appointment) → find (is_over cutoffs place) later ≡ Some a → to ≡ a.range.to
    → (place ≤ to) × ((other : ℕ) → place ≤ other → other ≤ to → is_taken cutoffs later other ≡ true)
taken_through cutoffs later place to a there is =
    let over = and_parts (nat_le a.moment cutoffs.appointments) (holds a.range place) (found-passes (is_over cutoffs place) later a there) in
    let held = and_parts (nat_le a.range.from place) (nat_le place a.range.to) over.1 in
    let low = leb-true a.range.from place held.0 in
    let high = leb-true place a.range.to held.1 in (
      omega (arith, high, is),
      λ other after before.
          found-any (is_over cutoffs place) (is_over cutoffs other) later a there
          (and_from (nat_le a.moment cutoffs.appointments) (holds a.range other) over.0
          (and_from (nat_le a.range.from other) (nat_le other a.range.to) (le-leb a.range.from other (omega (arith, low, after))) (le-leb other a.range.to (omega (arith, before, is))))),
    )

-- ---- the turns of the loop over what is left of a range

-- places that are taken add no run
pub skipped : (cutoffs : Cutoffs) (later : List Appointment) (range : Places) (next to : ℕ) (runs : List Places) → 1 ≤ next → IsLeftTo cutoffs later range next runs → next ≤ to → to ≤ range.to
    → ((other : ℕ) → next ≤ other → other ≤ to → is_taken cutoffs later other ≡ true) → IsLeftTo cutoffs later range (to + 1) runs
skipped cutoffs later range next to runs one before up within taken = record {
  begun = omega (arith, before.begun);
  within = omega arith;
  made =
      before.made
      ∙ sym (runs_that-behind (is_left cutoffs later range) (next - 1) to (omega (arith, one))
      (λ other past upto. ap (λ b. not b && holds range other) (taken other (omega (arith, past, one)) upto)))
      ∙ ap (runs_that (is_left cutoffs later range)) (last_is to);
}
  where
    last_is : (to : ℕ) → to ≡ to + 1 - 1
    last_is to = omega arith

-- places that are free are one run more
pub run_more : (cutoffs : Cutoffs) (later : List Appointment) (range : Places) (next to : ℕ) (runs more : List Places) → 1 ≤ next → IsLeftTo cutoffs later range next runs → next ≤ to → to ≤ range.to
    → ((other : ℕ) → next ≤ other → other ≤ to → is_taken cutoffs later other ≡ false) → more ≡ joined runs (record { from = next; to = to }) → IsLeftTo cutoffs later range (to + 1) more
run_more cutoffs later range next to runs more one before up within free joins =
    let first : suc (next - 1) ≡ next = omega (arith, one) in
    record {
      begun = omega (arith, before.begun);
      within = omega arith;
      made =
          joins
          ∙ ap (λ l. joined l (record { from = next; to = to })) before.made
          ∙ ap (λ n. joined (runs_that (is_left cutoffs later range) (next - 1)) (record { from = n; to = to })) (sym first)
          ∙ sym (runs_that-stretch (is_left cutoffs later range) true (next - 1) to (omega (arith, one))
          (λ other past upto. ap (λ b. not b && holds range other) (free other (omega (arith, past, one)) upto) ∙ has other (omega (arith, past, one, before.begun)) (omega (arith, upto, within))))
          ∙ ap (runs_that (is_left cutoffs later range)) (last_is to);
    }
  where
    last_is : (to : ℕ) → to ≡ to + 1 - 1
    last_is to = omega arith

    has : (other : ℕ) → range.from ≤ other → other ≤ range.to → holds range other ≡ true
    has other low high = and_from (nat_le range.from other) (nat_le other range.to) (le-leb range.from other low) (le-leb other range.to high)

-- before the range begins nothing is left of it
pub nothing_before : (cutoffs : Cutoffs) (later : List Appointment) (range : Places) → 1 ≤ range.from → [] ≡ runs_that (is_left cutoffs later range) (range.from - 1)
nothing_before cutoffs later range one =
    sym (runs_that-none (is_left cutoffs later range) (range.from - 1) (λ place low high. lacks place (omega (arith, high, one))))
  where
    never : (b : Bool) → (b && false) ≡ false
    never true = refl
    never false = refl

    lacks : (place : ℕ) → place < range.from → is_left cutoffs later range place ≡ false
    lacks place below =
        let fails : holds range place ≡ false = grind (arith, nat_tests) in
        ap (λ b. not (is_taken cutoffs later place) && b) fails ∙ never (not (is_taken cutoffs later place))

-- the ends of a range
pub range_ends : (from to : ℕ) → is_range from to ≡ true → (1 ≤ from) × (from ≤ to)
range_ends from to h =
    let ordered = first_so (nat_le 1 from && nat_le from to) (nat_le to MOST_PLACES) h in (
      leb-true 1 from (first_so (nat_le 1 from) (nat_le from to) ordered),
      leb-true from to (second_so (nat_le 1 from) (nat_le from to) ordered),
    )

-- ---- why an appointment governs nothing

-- it begins past the shares
pub begins_past : (cutoffs : Cutoffs) (a : Appointment) (shares last place : ℕ) (is_ended : Bool) → last ≡ min shares a.range.to → last < a.range.from → place ≤ shares
    → (is_over cutoffs place a && not is_ended) ≡ false
begins_past cutoffs a shares last place is_ended is past high =
    let behind : a.range.from ≤ place → a.range.to < place = λ from. omega (arith, is) in
    let fails : holds a.range place ≡ false =
    elim (cases_lt place a.range.from) [
      | inl below ↦ grind (arith, nat_tests)
      | inr from ↦ let to = behind from in grind (arith, nat_tests)
    ] in
    ap (λ b. (nat_le a.moment cutoffs.appointments && b) && not is_ended) fails ∙ neither_one (nat_le a.moment cutoffs.appointments) (not is_ended)
  where
    neither_one : (b c : Bool) → ((b && false) && c) ≡ false
    neither_one true c = refl
    neither_one false c = refl

-- it is ended
pub is_over_ended : (over is_ended : Bool) → is_ended ≡ true → (over && not is_ended) ≡ false
is_over_ended over is_ended is = ap (λ b. over && not b) is ∙ never over
  where
    never : (b : Bool) → (b && false) ≡ false
    never true = refl
    never false = refl

-- it does not count
pub counts_not : (counts over is_ended : Bool) → counts ≡ false → ((counts && over) && not is_ended) ≡ false
counts_not counts over is_ended is = ap (λ b. (b && over) && not is_ended) is

-- ---- what the appointment of a number governs among all

-- what is taken of all that are behind it
pub rest_is : (place : ℕ) (xs : List Appointment) → take (length xs - (place + 1)) (drop (place + 1) xs) ≡ drop (suc place) xs
rest_is place xs =
    let next : place + 1 ≡ suc place = omega arith in
    take_all _ (drop (place + 1) xs) (omega (arith, length-drop (place + 1) xs)) ∙ ap (λ n. drop n xs) next

pub governed_among : (cutoffs : Cutoffs) (shares : ℕ) (xs : List Appointment) (ended : List Ending) (place : ℕ) (a : Appointment) (number : ℕ)
    → are_numbered_from 0 xs ≡ true → slice_get xs place ≡ Some a → place + 1 ≡ number
    → governed_in cutoffs (holding_from shares a (drop (suc place) xs) ended) a.number ≡ governed_in cutoffs (record { shares = shares; appointed = xs; ended = ended }) number
governed_among cutoffs shares xs ended place a number all there is =
    let s = stands 0 xs place a all there in
    let same : a.number ≡ number = omega (arith, s.number) in
    sym (earlier_nothing cutoffs shares (take place xs) (a ∷ drop (suc place) xs) ended a.number s.before)
    ∙ ap (λ l. governed_in cutoffs (record { shares = shares; appointed = l; ended = ended }) a.number) (sym s.parts)
    ∙ ap (governed_in cutoffs (record { shares = shares; appointed = xs; ended = ended })) same

-- of a number that none has nothing is governed
pub governed_none : (cutoffs : Cutoffs) (shares : ℕ) (xs : List Appointment) (ended : List Ending) (number : ℕ) → list_any (has_number number) xs ≡ false
    → governed_in cutoffs (record { shares = shares; appointed = xs; ended = ended }) number ≡ []
governed_none cutoffs shares xs ended number none =
    ap (λ l. governed_in cutoffs (record { shares = shares; appointed = l; ended = ended }) number) (sym (append-nil xs))
    ∙ earlier_nothing cutoffs shares xs [] ended number none
    ∙ runs_that-none (governs cutoffs (record { shares = shares; appointed = []; ended = ended }) number) shares (λ place low high. sym (none_past (is_share shares place) number))

pub none_numbered : (xs : List Appointment) (number : ℕ) → are_numbered_from 0 xs ≡ true → (number ≡ 0) ⊎ (length xs < number) → list_any (has_number number) xs ≡ false
none_numbered xs number all (inl zeroth) = none_below 0 number xs all (omega (arith, zeroth))
none_numbered xs number all (inr past) = none_above 0 number xs all (omega (arith, past))
