-- Closed days in order: where a day would stand among them, and how many lie between two days.
use Rattle.std.proofs.Common.{◌≡◌, ◌≢◌, ℕ, zero, suc, ◌+◌, ◌<◌, ◌≤◌, Bool, true, false, ◌&&◌, ◌||◌, cond, List, [], ◌∷◌, length, get_or, take, drop, Result, Ok, Err, leb, ltb, refl, sym, ap, ◌∙◌, arith, inl, inr, zero-add}
use Rattle.std.specs.Prelude.{◌==◌, count_by, is_ok, MatchResult}
use Rattle.std.specs.List.Sorted.{IsNonDecreasingBy}
use Rattle.std.specs.Ordering.{is_lt}
use Rattle.std.proofs.lemmas.Bool.{cases_lt, le-leb, lt-leb, lt-ltb, le-ltb, eq-eqb, ne_eqb, ltb-true, and_parts, and_right, and_left, not-true}
use Rattle.std.proofs.lemmas.Cmp.{nat_cmp_total}
use Rattle.std.proofs.lemmas.List.Sorted.{IsNonDecreasingBy-from_default}
use Rattle.std.proofs.lemmas.List.Sums.{sum_by-cons}
use Rattle.std.proofs.Math.Bool.{and-true}
use Rattle.seq.specs.Ordered.{differ_by}
use Rattle.seq.proofs.Ascending.{differs-from_ascends_by}
use Rattle.seq.proofs.Finding.{before-from_ascends}
use Rattle.seq.proofs.Numbers.{is_lt-nat_cmp, differ_by-numbers}
use Rattle.desk_words.specs.SortedLists.{is_day_list}
use Rattle.office_days.specs.WorkingDays.{numbers_that, is_closed_day}
use Rattle.office_days.proofs.Counting.{numbers_that-none, numbers_that-none_between, numbers_that-suc, numbers_that-split}

-- ---- the order

pub days_rise : (days : List ℕ) → is_day_list days ≡ true → (i j : ℕ) → i < j → j < length days → get_or days i 0 < get_or days j 0
days_rise days is i j below within =
    let less = before-from_ascends nat_cmp_total (λ (day : ℕ). day) days (and_parts _ _ is).1 i j 0 below within in
    ltb-true (get_or days i 0) (get_or days j 0) (sym (is_lt-nat_cmp (get_or days i 0) (get_or days j 0)) ∙ ap is_lt less)

pub days_do_not_fall : (days : List ℕ) → is_day_list days ≡ true → (i j : ℕ) → i ≤ j → j < length days → get_or days i 0 ≤ get_or days j 0
days_do_not_fall days is i j below within =
    elim (cases_lt i j) [
      | inl before ↦ omega (arith, days_rise days is i j before within)
      | inr after ↦ let e : i ≡ j = omega arith in omega (arith, ap (λ k. get_or days k 0) e)
    ]

pub days_in_order : (days : List ℕ) → is_day_list days ≡ true → IsNonDecreasingBy (λ (day : ℕ). day) days
days_in_order days is = IsNonDecreasingBy-from_default (λ day. day) days 0 (days_do_not_fall days is)

-- no day stands twice
pub days_differ : (days : List ℕ) → is_day_list days ≡ true → differ_by (λ a b. a == b) days ≡ true
days_differ days is = sym (differ_by-numbers (λ day. day) days) ∙ differs-from_ascends_by nat_cmp_total (λ (day : ℕ). day) days (and_parts _ _ is).1

-- ---- whether a day is closed

is_closed-at : (closed : List ℕ) (day i : ℕ) → i < length closed → get_or closed i 0 ≡ day → is_closed_day closed day ≡ true
is_closed-at [] day i within is = absurd (omega arith)
is_closed-at (x ∷ xs) day zero within is = ap (λ b. b || is_closed_day xs day) (eq-eqb day x (sym is))
is_closed-at (x ∷ xs) day (suc i) within is = rw (is_closed-at xs day i (omega arith) is) (or_true (day == x))
  where
    or_true : (b : Bool) → (b || true) ≡ true
    or_true true = refl
    or_true false = refl

is_closed-nowhere : (closed : List ℕ) (day : ℕ) → ((k : ℕ) → k < length closed → get_or closed k 0 ≢ day) → is_closed_day closed day ≡ false
is_closed-nowhere [] day not_at = refl
is_closed-nowhere (x ∷ xs) day not_at =
    ap (λ b. b || is_closed_day xs day) (ne_eqb day x (λ e. not_at 0 (omega arith) (sym e)))
    ∙ is_closed-nowhere xs day (λ k h. not_at (suc k) (omega arith))

-- a search tells whether a day is closed
pub is_closed-searched : (closed : List ℕ) (day : ℕ) (answer : Result ℕ ℕ)
    → MatchResult answer (λ i. (i < length closed) × (get_or closed i 0 ≡ day)) (λ i. (i ≤ length closed) × ((k : ℕ) → k < i → get_or closed k 0 < day) × ((k : ℕ) → i ≤ k → k < length closed → day < get_or closed k 0))
    → is_closed_day closed day ≡ is_ok answer
is_closed-searched closed day (Ok i) is = is_closed-at closed day i is.0 is.1
is_closed-searched closed day (Err i) is =
    is_closed-nowhere closed day
    (λ k within e. elim (cases_lt k i) [ inl lower ↦ omega (arith, is.1 k lower) | inr upper ↦ omega (arith, is.2 k upper within) ])

-- ---- counting

-- tests that agree on the numbers between count alike
numbers_that-same : (p q : ℕ → Bool) (from to : ℕ) → ((n : ℕ) → from ≤ n → n < to → p n ≡ q n) → numbers_that p from to ≡ numbers_that q from to
numbers_that-same p q from zero same = omega (arith, numbers_that-none_between p from 0 (omega arith), numbers_that-none_between q from 0 (omega arith))
numbers_that-same p q from (suc n) same =
    elim (cases_lt n from) [
      | inl last ↦ omega (arith, numbers_that-none_between p from (suc n) (omega arith), numbers_that-none_between q from (suc n) (omega arith))
      | inr inside ↦
          omega (arith, numbers_that-same p q from n (λ k low high. same k low (omega arith)), numbers_that-suc p from n inside, numbers_that-suc q from n inside, ap {B = ℕ} (λ b. cond b 1 0) (same n inside (omega arith)))
    ]

-- a test that one number more passes
numbers_that-one_inside : (p more : ℕ → Bool) (x from to : ℕ) → ((n : ℕ) → n ≢ x → more n ≡ p n) → p x ≡ false → from ≤ x → x < to → numbers_that more from to ≡ numbers_that p from to + cond (more x) 1 0
numbers_that-one_inside p more x from to same fails low high =
    let a = numbers_that-same more p from x (λ n above below. same n (omega arith)) in
    let b = numbers_that-same more p (suc x) to (λ n above below. same n (omega arith)) in
    let c = numbers_that-split more from (suc x) to (omega arith) (omega arith) in
    let d = numbers_that-split p from (suc x) to (omega arith) (omega arith) in
    omega (arith, a, b, c, d, numbers_that-suc more from x low, numbers_that-suc p from x low, ap {B = ℕ} (λ t. cond t 1 0) fails)

numbers_that-one_more : (p more : ℕ → Bool) (x from to : ℕ) → ((n : ℕ) → n ≢ x → more n ≡ p n) → p x ≡ false → numbers_that more from to ≡ cond (leb from x && ltb x to && more x) 1 0 + numbers_that p from to
numbers_that-one_more p more x from to same fails =
    elim (cases_lt x from) [
      | inl before ↦
          rw (lt-leb from x before) (omega (arith, numbers_that-same more p from to (λ n above below. same n (omega arith))))
      | inr from_there ↦
          elim (cases_lt x to) [
            | inl inside ↦
                rw (le-leb from x from_there, lt-ltb x to inside) (omega (arith, numbers_that-one_inside p more x from to same fails from_there inside))
            | inr after ↦
                rw (le-leb from x from_there, le-ltb x to after) (omega (arith, numbers_that-same more p from to (λ n above below. same n (omega arith))))
          ]
    ]

count_by-cons : (p : ℕ → Bool) (x : ℕ) (xs : List ℕ) → count_by p (x ∷ xs) ≡ cond (p x) 1 0 + count_by p xs
count_by-cons p x xs = sum_by-cons (λ y. cond (p y) 1 0) x xs

-- of days that differ, those between two days that pass a test are as many as the days between that pass it and are among them
pub numbers_that-closed : (p : ℕ → Bool) (closed : List ℕ) (from to : ℕ) → differ_by (λ a b. a == b) closed ≡ true
    → numbers_that (λ day. p day && is_closed_day closed day) from to ≡ count_by (λ day. leb from day && ltb day to && p day) closed
numbers_that-closed p [] from to differ = numbers_that-none (λ day. p day && false) from to (λ n above below. and_right (p n) false refl)
numbers_that-closed p (x ∷ xs) from to differ =
    let parts = and_parts _ _ differ in
    let once : is_closed_day xs x ≡ false = not-true _ parts.0 in
    let more : ℕ → Bool = λ day. p day && is_closed_day (x ∷ xs) day in
    let itself : more x ≡ p x = rw (eq-eqb x x refl) (and-true (p x)) in
    let one = numbers_that-one_more (λ day. p day && is_closed_day xs day) more x from to
    (λ n other. ap (λ b. p n && (b || is_closed_day xs n)) (ne_eqb n x other))
    (ap (λ b. p x && b) once ∙ and_right (p x) false refl) in
    omega (arith, one, ap {B = ℕ} (λ b. cond (leb from x && ltb x to && b) 1 0) itself, count_by-cons (λ day. leb from day && ltb day to && p day) x xs, numbers_that-closed p xs from to parts.1)

-- a run of a list in order is what lies between two days
pub count_by-run : (p : ℕ → Bool) (days : List ℕ) (first count from to : ℕ) → first + count ≤ length days
    → ((k : ℕ) → k < first → get_or days k 0 < from)
    → ((k : ℕ) → first ≤ k → k < first + count → (from ≤ get_or days k 0) × (get_or days k 0 < to))
    → ((k : ℕ) → first + count ≤ k → k < length days → to ≤ get_or days k 0)
    → count_by (λ day. leb from day && ltb day to && p day) days ≡ count_by p (take count (drop first days))
count_by-run p [] zero zero from to fits before inside after = refl
count_by-run p [] zero (suc count) from to fits before inside after = refl
count_by-run p [] (suc first) count from to fits before inside after = absurd (omega arith)
count_by-run p (x ∷ xs) zero zero from to fits before inside after =
    let here : to ≤ x = after 0 (omega arith) (omega arith) in
    let rest = count_by-run p xs 0 0 from to (omega arith) (λ k h. absurd (omega arith)) (λ k h h'. absurd (omega arith)) (λ k h h'. after (suc k) (omega arith) (omega arith)) in
    let out : (leb from x && ltb x to && p x) ≡ false = and_left _ (p x) (and_right (leb from x) (ltb x to) (le-ltb x to here)) in
    count_by-cons (λ day. leb from day && ltb day to && p day) x xs
    ∙ ap (λ b. cond b 1 0 + count_by (λ day. leb from day && ltb day to && p day) xs) out
    ∙ zero-add _ ∙ rest
count_by-run p (x ∷ xs) zero (suc count) from to fits before inside after =
    let here : (from ≤ x) × (x < to) = inside 0 (omega arith) (omega arith) in
    let rest = count_by-run p xs 0 count from to (omega arith) (λ k h. absurd (omega arith)) (λ k h h'. inside (suc k) (omega arith) (omega arith)) (λ k h h'. after (suc k) (omega arith) (omega arith)) in
    let same : (leb from x && ltb x to && p x) ≡ p x = rw (le-leb from x here.0, lt-ltb x to here.1) refl in
    count_by-cons (λ day. leb from day && ltb day to && p day) x xs
    ∙ ap (λ b. cond b 1 0 + count_by (λ day. leb from day && ltb day to && p day) xs) same
    ∙ ap (λ n. cond (p x) 1 0 + n) rest
    ∙ sym (count_by-cons p x (take count xs))
count_by-run p (x ∷ xs) (suc first) count from to fits before inside after =
    let here : x < from = before 0 (omega arith) in
    let rest = count_by-run p xs first count from to (omega arith) (λ k h. before (suc k) (omega arith)) (λ k h h'. inside (suc k) (omega arith) (omega arith)) (λ k h h'. after (suc k) (omega arith) (omega arith)) in
    let out : (leb from x && ltb x to && p x) ≡ false = and_left _ (p x) (and_left (leb from x) (ltb x to) (lt-leb from x here)) in
    count_by-cons (λ day. leb from day && ltb day to && p day) x xs
    ∙ ap (λ b. cond b 1 0 + count_by (λ day. leb from day && ltb day to && p day) xs) out
    ∙ zero-add _ ∙ rest
