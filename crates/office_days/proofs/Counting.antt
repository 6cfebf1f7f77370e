-- Counting the numbers that pass a test.
use Rattle.std.proofs.Common.{◌≡◌, ℕ, zero, suc, ◌+◌, ◌*◌, ◌/◌, ◌%◌, ◌<◌, ◌≤◌, Bool, true, false, not, ◌&&◌, cond, Some, None, refl, sym, ap, ◌∙◌, arith, inl, inr, min}
use Rattle.std.proofs.lemmas.Bool.{cases_lt, cases_Bool, le-leb, lt-leb, lt-ltb, le-ltb}
use Rattle.seq.proofs.Booleans.{one_at_most}
use Rattle.office_days.specs.WorkingDays.{numbers_that, greatest_that, is_weekday}

-- no number lies from one up to and without a lower one
pub numbers_that-none_between : (test : ℕ → Bool) (from to : ℕ) → to ≤ from → numbers_that test from to ≡ 0
unfolding numbers_that
numbers_that-none_between test from zero h = refl
numbers_that-none_between test from (suc n) h = rw (numbers_that-none_between test from n (omega arith), lt-leb from n (omega arith)) refl

-- one number more
pub numbers_that-suc : (test : ℕ → Bool) (from n : ℕ) → from ≤ n → numbers_that test from (suc n) ≡ numbers_that test from n + cond (test n) 1 0
unfolding numbers_that
numbers_that-suc test from n h = rw (le-leb from n h) refl

-- the numbers up to a place between, and those from there on
pub numbers_that-split : (test : ℕ → Bool) (from mid to : ℕ) → from ≤ mid → mid ≤ to → numbers_that test from mid + numbers_that test mid to ≡ numbers_that test from to
numbers_that-split test from mid zero h k =
    omega (arith, numbers_that-none_between test from mid (omega arith), numbers_that-none_between test mid 0 (omega arith), numbers_that-none_between test from 0 (omega arith))
numbers_that-split test from mid (suc n) h k =
    elim (cases_lt n mid) [
      | inl last ↦
          let e : mid ≡ suc n = omega arith in
          omega (arith, numbers_that-none_between test mid (suc n) (omega arith), ap (λ m. numbers_that test from m) e)
      | inr inside ↦
          omega (arith, numbers_that-split test from mid n h inside, numbers_that-suc test mid n inside, numbers_that-suc test from n (omega arith))
    ]

-- where all numbers pass
pub numbers_that-all : (test : ℕ → Bool) (from to : ℕ) → from ≤ to → ((n : ℕ) → from ≤ n → n < to → test n ≡ true) → numbers_that test from to + from ≡ to
numbers_that-all test from zero h all = omega (arith, numbers_that-none_between test from 0 (omega arith))
numbers_that-all test from (suc n) h all =
    elim (cases_lt n from) [
      | inl last ↦ omega (arith, numbers_that-none_between test from (suc n) (omega arith))
      | inr inside ↦
          omega (arith, numbers_that-all test from n inside (λ k low high. all k low (omega arith)), numbers_that-suc test from n inside, ap {B = ℕ} (λ b. cond b 1 0) (all n inside (omega arith)))
    ]

-- where none passes
pub numbers_that-none : (test : ℕ → Bool) (from to : ℕ) → ((n : ℕ) → from ≤ n → n < to → test n ≡ false) → numbers_that test from to ≡ 0
numbers_that-none test from zero none = numbers_that-none_between test from 0 (omega arith)
numbers_that-none test from (suc n) none =
    elim (cases_lt n from) [
      | inl last ↦ numbers_that-none_between test from (suc n) (omega arith)
      | inr inside ↦
          omega (arith, numbers_that-none test from n (λ k low high. none k low (omega arith)), numbers_that-suc test from n inside, ap {B = ℕ} (λ b. cond b 1 0) (none n inside (omega arith)))
    ]

-- no more numbers pass than there are
pub numbers_that-bound : (test : ℕ → Bool) (from to : ℕ) → from ≤ to → numbers_that test from to + from ≤ to
numbers_that-bound test from zero h = omega (arith, numbers_that-none_between test from 0 (omega arith))
numbers_that-bound test from (suc n) h =
    elim (cases_lt n from) [
      | inl last ↦ omega (arith, numbers_that-none_between test from (suc n) (omega arith))
      | inr inside ↦ omega (arith, numbers_that-bound test from n inside, numbers_that-suc test from n inside, one_at_most (test n))
    ]

two_parts : (p q : Bool) → cond (p && not q) 1 0 + cond (p && q) 1 0 ≡ cond p 1 0
two_parts true true = refl
two_parts true false = refl
two_parts false true = refl
two_parts false false = refl

-- those that pass a first test are those that do not pass a second besides, and those that do
pub numbers_that-parts : (p q : ℕ → Bool) (from to : ℕ) → numbers_that (λ n. p n && not (q n)) from to + numbers_that (λ n. p n && q n) from to ≡ numbers_that p from to
numbers_that-parts p q from zero =
    omega (arith, numbers_that-none_between (λ n. p n && not (q n)) from 0 (omega arith), numbers_that-none_between (λ n. p n && q n) from 0 (omega arith), numbers_that-none_between p from 0 (omega arith))
numbers_that-parts p q from (suc n) =
    elim (cases_lt n from) [
      | inl last ↦
          omega (arith, numbers_that-none_between (λ n. p n && not (q n)) from (suc n) (omega arith), numbers_that-none_between (λ n. p n && q n) from (suc n) (omega arith), numbers_that-none_between p from (suc n) (omega arith))
      | inr inside ↦
          omega (arith, numbers_that-parts p q from n, numbers_that-suc (λ n. p n && not (q n)) from n inside, numbers_that-suc (λ n. p n && q n) from n inside, numbers_that-suc p from n inside, two_parts (p n) (q n))
    ]

-- ---- days and their seconds

module _ (test : ℕ → Bool) where
  abbrev on_day : ℕ → Bool
  on_day second = test (second / 86400)

  -- within a day that passes each second does
  pub numbers_that-day_passes : (day from to : ℕ) → test day ≡ true → 86400 * day ≤ from → from ≤ to → to ≤ 86400 * day + 86400 → numbers_that (λ second. test (second / 86400)) from to + from ≡ to
  numbers_that-day_passes day from to passes low h high =
      numbers_that-all on_day from to h
      (λ n above below. let e : n / 86400 ≡ day = omega arith in ap test e ∙ passes)

  -- within a day that does not pass no second does
  pub numbers_that-day_fails : (day from to : ℕ) → test day ≡ false → 86400 * day ≤ from → to ≤ 86400 * day + 86400 → numbers_that (λ second. test (second / 86400)) from to ≡ 0
  numbers_that-day_fails day from to fails low high =
      numbers_that-none on_day from to
      (λ n above below. let e : n / 86400 ≡ day = omega arith in ap test e ∙ fails)

  -- the seconds of a whole day
  numbers_that-day : (day : ℕ) → numbers_that on_day (86400 * day) (86400 * day + 86400) ≡ 86400 * cond (test day) 1 0
  numbers_that-day day =
      elim (cases_Bool (test day)) [
        | inl passes ↦ omega (arith, numbers_that-day_passes day (86400 * day) (86400 * day + 86400) passes (omega arith) (omega arith) (omega arith), ap {B = ℕ} (λ b. cond b 1 0) passes)
        | inr fails ↦ omega (arith, numbers_that-day_fails day (86400 * day) (86400 * day + 86400) fails (omega arith) (omega arith), ap {B = ℕ} (λ b. cond b 1 0) fails)
      ]

  -- the seconds of whole days
  pub numbers_that-days : (from to : ℕ) → from ≤ to → numbers_that (λ second. test (second / 86400)) (86400 * from) (86400 * to) ≡ 86400 * numbers_that test from to
  numbers_that-days from zero h =
      omega (arith, numbers_that-none_between on_day (86400 * from) (86400 * zero) (omega arith), numbers_that-none_between test from 0 (omega arith))
  numbers_that-days from (suc n) h =
      elim (cases_lt n from) [
        | inl last ↦ omega (arith, numbers_that-none_between on_day (86400 * from) (86400 * suc n) (omega arith), numbers_that-none_between test from (suc n) (omega arith))
        | inr inside ↦
            let next : 86400 * n + 86400 ≡ 86400 * suc n = omega arith in
            let split = numbers_that-split on_day (86400 * from) (86400 * n) (86400 * n + 86400) (omega arith) (omega arith) in
            omega (arith, split, ap (λ m. numbers_that on_day (86400 * from) m) next, numbers_that-day n, numbers_that-days from n inside, numbers_that-suc test from n inside)
      ]

  -- the seconds from one to another, by the whole days between the beginnings of their days
  pub numbers_that-by_days : (from to : ℕ) → from ≤ to
      → 86400 * numbers_that test (from / 86400) (to / 86400) + numbers_that (λ second. test (second / 86400)) (86400 * (to / 86400)) to
      ≡ numbers_that (λ second. test (second / 86400)) (86400 * (from / 86400)) from + numbers_that (λ second. test (second / 86400)) from to
  numbers_that-by_days from to h =
      let first = 86400 * (from / 86400) in
      let last = 86400 * (to / 86400) in
      let ordered : from / 86400 ≤ to / 86400 = omega arith in
      let days = numbers_that-days (from / 86400) (to / 86400) ordered in
      let one = numbers_that-split on_day (86400 * (from / 86400)) (86400 * (to / 86400)) to (omega arith) (omega arith) in
      let two = numbers_that-split on_day (86400 * (from / 86400)) from to (omega arith) h in
      omega (arith, days, one, two)

-- ---- weekdays

-- five days of each whole week, and of a week begun as many as have passed, at most five
pub numbers_that-weekdays : (n : ℕ) → numbers_that is_weekday 0 n ≡ n / 7 * 5 + min (n % 7) 5
numbers_that-weekdays zero = numbers_that-none_between is_weekday 0 0 (omega arith)
numbers_that-weekdays (suc n) =
    elim (cases_lt (n % 7) 5) [
      | inl weekday ↦ omega (arith, numbers_that-weekdays n, numbers_that-suc is_weekday 0 n (omega arith), ap {B = ℕ} (λ b. cond b 1 0) (lt-ltb (n % 7) 5 weekday))
      | inr weekend ↦ omega (arith, numbers_that-weekdays n, numbers_that-suc is_weekday 0 n (omega arith), ap {B = ℕ} (λ b. cond b 1 0) (le-ltb (n % 7) 5 weekend))
    ]

-- ---- the greatest number that passes

pub greatest_that-is : (test : ℕ → Bool) (n found : ℕ) → found ≤ n → test found ≡ true → ((later : ℕ) → found < later → later ≤ n → test later ≡ false) → greatest_that test n ≡ Some found
unfolding greatest_that
greatest_that-is test zero found h passes later =
    let e : found ≡ 0 = omega arith in
    rw (ap test (sym e) ∙ passes) (ap Some (sym e))
greatest_that-is test (suc n) found h passes later =
    elim (cases_lt n found) [
      | inl last ↦
          let e : found ≡ suc n = omega arith in
          rw (ap test (sym e) ∙ passes) (ap Some (sym e))
      | inr earlier ↦
          rw (later (suc n) (omega arith) (omega arith)) (greatest_that-is test n found earlier passes (λ k above below. later k above (omega arith)))
    ]

pub greatest_that-none : (test : ℕ → Bool) (n : ℕ) → ((k : ℕ) → k ≤ n → test k ≡ false) → greatest_that test n ≡ None
unfolding greatest_that
greatest_that-none test zero none = rw (none 0 (omega arith)) refl
greatest_that-none test (suc n) none = rw (none (suc n) (omega arith)) (greatest_that-none test n (λ k h. none k (omega arith)))
