-- Whether any place of 1 to n passes a test.
use Rattle.std.proofs.Common.{◌≡◌, ℕ, zero, suc, ◌+◌, ◌≤◌, Bool, true, false, not, ◌&&◌, ◌||◌, cond, List, [], ◌∷◌, refl, sym, ap, ◌∙◌, arith, add-zero}
use Rattle.std.specs.Prelude.{nat_eq, nat_lt, ◌==◌}
use Rattle.std.specs.List.{list_any}
use Rattle.std.proofs.Math.Bool.{or-false, or-true}
use Rattle.std.proofs.lemmas.Bool.{lt-ltb, or_right}
use Rattle.std.proofs.lemmas.Bool.Decides.{nat_tests}
use Rattle.vocabulary.specs.Places.{Places, places_that}
use Rattle.proxy_rules.specs.PlaceRuns.{joined, runs_that}
use Rattle.caller_view.specs.Rights.{no_runs}
use Rattle.laws_step.proofs.AnyLemmas.{any-none, any-either}

-- some place of 1 to n passes
abbrev pub some_place : (ℕ → Bool) → ℕ → Bool
some_place test n = nat_lt 0 (places_that test n)

-- some place of 1 to n + 1 passes where one before it does, or itself
last_too : (count : ℕ) (b : Bool) → nat_lt 0 (count + cond b 1 0) ≡ (nat_lt 0 count || b)
last_too count true = lt-ltb 0 (count + 1) (omega arith) ∙ sym (or-true (nat_lt 0 count))
last_too count false = ap (nat_lt 0) (add-zero count) ∙ sym (or-false (nat_lt 0 count))

-- a test that nothing passes
no_place : (n : ℕ) → some_place (λ place. false) n ≡ false
no_place zero = refl
no_place (suc n) = last_too (places_that (λ place. false) n) false ∙ or-false (some_place (λ place. false) n) ∙ no_place n

-- a condition that is the same of all places
pub some_place-and : (b : Bool) (test : ℕ → Bool) (n : ℕ) → (b && some_place test n) ≡ some_place (λ place. b && test place) n
some_place-and true test n = refl
some_place-and false test n = sym (no_place n)

-- of many tests one passes some place exactly where some place passes one of them
pub some_place-any : {X : Type 0} (test : X → ℕ → Bool) (xs : List X) (n : ℕ)
    → list_any (λ x. some_place (test x) n) xs ≡ some_place (λ place. list_any (λ x. test x place) xs) n
some_place-any test xs zero = any-none xs
some_place-any test xs (suc n) =
    ap (λ passes. list_any passes xs) (λ i x. last_too (places_that (test x) n) (test x (suc n)) i)
    ∙ any-either (λ x. some_place (test x) n) (λ x. test x (suc n)) xs
    ∙ ap (λ b. b || list_any (λ x. test x (suc n)) xs) (some_place-any test xs n)
    ∙ sym (last_too (places_that (λ place. list_any (λ x. test x place) xs) n) (list_any (λ x. test x (suc n)) xs))

-- a place that passes is one of those that do
pub some_place-is : (test : ℕ → Bool) (n place : ℕ) → 1 ≤ place → place ≤ n → test place ≡ true → some_place test n ≡ true
some_place-is test zero place one below passes = absurd (omega (arith, one, below))
some_place-is test (suc n) place one below passes =
    last_too (places_that test n) (test (suc n))
    ∙ (elim (nat_eq place (suc n)) as (λ b. nat_eq place (suc n) ≡ b → (some_place test n || test (suc n)) ≡ true) [
      | true ↦ λ same.
          let is : place ≡ suc n = grind (arith, nat_tests, same) in
          or_right (some_place test n) (test (suc n)) (ap test (sym is) ∙ passes)
      | false ↦ λ other.
          let before : place ≤ n = grind (arith, nat_tests, other, below) in
          ap (λ b. b || test (suc n)) (some_place-is test n place one before passes)
    ]) refl

-- a place of 1 to n that passes
pub record Passing (test : ℕ → Bool) (n : ℕ) : Type 0 where
  pub place : ℕ
  pub one : 1 ≤ place
  pub below : place ≤ n
  pub passes : test place ≡ true

-- where some place passes, there is one that does
pub some_place-found : (test : ℕ → Bool) (n : ℕ) → some_place test n ≡ true → Passing test n
some_place-found test zero h = absurd (cc)
some_place-found test (suc n) h =
    (elim (test (suc n)) as (λ b. test (suc n) ≡ b → (some_place test n || b) ≡ true → Passing test (suc n)) [
      | true ↦ λ passes _. record { place = suc n; one = omega arith; below = omega arith; passes = passes }
      | false ↦ λ fails some.
          let found = some_place-found test n (sym (or-false (some_place test n)) ∙ some) in
          record { place = found.place; one = found.one; below = omega (arith, found.below); passes = found.passes }
    ]) refl (sym (last_too (places_that test n) (test (suc n))) ∙ h)

-- ---- runs

-- what was joined to is some run
joined-some : (runs : List Places) (run : Places) → no_runs (joined runs run) ≡ false
joined-some [] run = refl
joined-some (last ∷ []) run =
    elim (last.to + 1 == run.from) as (λ b. no_runs (cond b (record { from = last.from; to = run.to } ∷ []) (last ∷ run ∷ [])) ≡ false) [
      | true ↦ refl
      | false ↦ refl
    ]
joined-some (first ∷ second ∷ runs) run = refl

-- one run more, if it is put
run_too : (b : Bool) (runs : List Places) (run : Places) → not (no_runs (cond b (joined runs run) runs)) ≡ (not (no_runs runs) || b)
run_too true runs run = ap not (joined-some runs run) ∙ sym (or-true (not (no_runs runs)))
run_too false runs run = sym (or-false (not (no_runs runs)))

-- there is a run exactly where some place passes
pub runs_that-some : (test : ℕ → Bool) (n : ℕ) → not (no_runs (runs_that test n)) ≡ some_place test n
runs_that-some test zero = refl
runs_that-some test (suc n) =
    run_too (test (suc n)) (runs_that test n) (record { from = suc n; to = suc n })
    ∙ ap (λ b. b || test (suc n)) (runs_that-some test n)
    ∙ sym (last_too (places_that test n) (test (suc n)))
