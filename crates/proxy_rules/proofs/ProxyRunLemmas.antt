-- Runs of places.
use Rattle.std.proofs.Common.{◌≡◌, ℕ, zero, suc, ◌+◌, ◌<◌, ◌≤◌, Bool, true, false, cond, List, [], ◌∷◌, ◌++◌, length, get_or, set, refl, sym, ap, ◌∙◌, subst, arith, inl, inr}
use Rattle.std.specs.Prelude.{◌&&◌, ◌||◌, ◌==◌, nat_le, ⊤}
use Rattle.std.specs.List.{list_any}
use Rattle.std.specs.Cmp.Derive.{both_true}
use Rattle.std.proofs.lemmas.Bool.{cases_lt, eq-eqb, le-leb, lt-ltb, ne_eqb}
use Rattle.std.proofs.lemmas.Bool.Decides.{nat_tests}
use Rattle.std.proofs.Math.Bool.{or-false, or_assoc}
use Rattle.vocabulary.specs.Places.{Places, holds}
use Rattle.proxy_rules.specs.PlaceRuns.{joined, runs_that, are_parted}

-- ---- one run more

-- the last run, made longer
pub set-joined : (runs : List Places) (last run longer : Places) (n : ℕ) → length runs ≡ n + 1 → last ≡ get_or runs n last → last.to + 1 ≡ run.from
    → longer ≡ record { from = last.from; to = run.to } → set runs n longer ≡ joined runs run
set-joined [] last run longer n len is meets made = absurd (omega arith)
set-joined (r ∷ []) last run longer zero len is meets made =
    ap (λ l. l ∷ []) (made ∙ ap (λ (p : Places). record { from = p.from; to = run.to }) is)
    ∙ sym (ap (λ b. cond b (record { from = r.from; to = run.to } ∷ []) (r ∷ run ∷ [])) (sym (ap (λ (p : Places). p.to + 1 == run.from) is) ∙ eq-eqb (last.to + 1) run.from meets))
set-joined (r ∷ []) last run longer (suc n) len is meets made = absurd (omega arith)
set-joined (r ∷ s ∷ runs) last run longer zero len is meets made = absurd (omega arith)
set-joined (r ∷ s ∷ runs) last run longer (suc n) len is meets made = ap (λ l. r ∷ l) (set-joined (s ∷ runs) last run longer n (omega (arith, len)) is meets made)

-- a run behind a gap
pub push-joined : (runs : List Places) (last run : Places) (n : ℕ) → length runs ≡ n + 1 → last ≡ get_or runs n last → (last.to + 1 ≡ run.from → ⊥)
    → runs ++ run ∷ [] ≡ joined runs run
push-joined [] last run n len is apart = absurd (omega arith)
push-joined (r ∷ []) last run zero len is apart =
    sym (ap (λ b. cond b (record { from = r.from; to = run.to } ∷ []) (r ∷ run ∷ [])) (sym (ap (λ (p : Places). p.to + 1 == run.from) is) ∙ ne_eqb (last.to + 1) run.from apart))
push-joined (r ∷ []) last run (suc n) len is apart = absurd (omega arith)
push-joined (r ∷ s ∷ runs) last run zero len is apart = absurd (omega arith)
push-joined (r ∷ s ∷ runs) last run (suc n) len is apart = ap (λ l. r ∷ l) (push-joined (s ∷ runs) last run n (omega (arith, len)) is apart)

-- what is joined to some run leaves a run, behind which the next comes
joined-cons : (first : Places) (runs : List Places) (run next : Places) → joined (first ∷ joined runs run) next ≡ first ∷ joined (joined runs run) next
joined-cons first [] run next = refl
joined-cons first (last ∷ []) run next =
    elim (last.to + 1 == run.from) as (λ b. joined (first ∷ cond b (record { from = last.from; to = run.to } ∷ []) (last ∷ run ∷ [])) next ≡ first ∷ joined (cond b (record { from = last.from; to = run.to } ∷ []) (last ∷ run ∷ [])) next) [
      | true ↦ refl
      | false ↦ refl
    ]
joined-cons first (second ∷ third ∷ runs) run next = refl

-- two runs that meet are put one by one or as one
joined-joined : (runs : List Places) (f m t : ℕ) → joined (joined runs (record { from = f; to = m })) (record { from = suc m; to = t }) ≡ joined runs (record { from = f; to = t })
joined-joined [] f m t =
    ap (λ b. cond b (record { from = f; to = t } ∷ []) (record { from = f; to = m } ∷ record { from = suc m; to = t } ∷ [])) (eq-eqb (m + 1) (suc m) (omega arith))
joined-joined (last ∷ []) f m t =
    elim (last.to + 1 == f) as (λ b. joined (cond b (record { from = last.from; to = m } ∷ []) (last ∷ record { from = f; to = m } ∷ [])) (record { from = suc m; to = t }) ≡ cond b (record { from = last.from; to = t } ∷ []) (last ∷ record { from = f; to = t } ∷ [])) [
      | true ↦ joined-joined [] last.from m t
      | false ↦ ap (λ l. last ∷ l) (joined-joined [] f m t)
    ]
joined-joined (first ∷ second ∷ runs) f m t =
    joined-cons first (second ∷ runs) (record { from = f; to = m }) (record { from = suc m; to = t })
    ∙ ap (λ l. first ∷ l) (joined-joined (second ∷ runs) f m t)

-- ---- stretches of places that pass alike

one_more : (b : Bool) (runs : List Places) (f m : ℕ)
    → cond b (joined (cond b (joined runs (record { from = f; to = m })) runs) (record { from = suc m; to = suc m })) (cond b (joined runs (record { from = f; to = m })) runs) ≡ cond b (joined runs (record { from = f; to = suc m })) runs
one_more true runs f m = joined-joined runs f m (suc m)
one_more false runs f m = refl

-- over places that all pass the runs grow by one, and over places of which none does they stay
pub runs_that-stretch : (test : ℕ → Bool) (b : Bool) (n m : ℕ) → n < m → ((place : ℕ) → n < place → place ≤ m → test place ≡ b)
    → runs_that test m ≡ cond b (joined (runs_that test n) (record { from = suc n; to = m })) (runs_that test n)
runs_that-stretch test b n zero below alike = absurd (omega arith)
runs_that-stretch test b n (suc m) below alike = elim (cases_lt n m) [
  | inl lower ↦
      ap (λ c. cond c (joined (runs_that test m) (record { from = suc m; to = suc m })) (runs_that test m)) (alike (suc m) below (omega arith))
      ∙ ap (λ l. cond b (joined l (record { from = suc m; to = suc m })) l) (runs_that-stretch test b n m lower (λ place low high. alike place low (omega arith)))
      ∙ one_more b (runs_that test n) (suc n) m
  | inr upper ↦
      let e : m ≡ n = omega arith in
      ap (λ c. cond c (joined (runs_that test m) (record { from = suc m; to = suc m })) (runs_that test m)) (alike (suc m) below (omega arith))
      ∙ ap (λ k. cond b (joined (runs_that test k) (record { from = suc k; to = suc m })) (runs_that test k)) e
]

-- tests that pass the places 1 to n alike give the same runs
pub runs_that-alike : (test other : ℕ → Bool) (n : ℕ) → ((place : ℕ) → 1 ≤ place → place ≤ n → test place ≡ other place) → runs_that test n ≡ runs_that other n
runs_that-alike test other zero alike = refl
runs_that-alike test other (suc n) alike =
    ap (λ b. cond b (joined (runs_that test n) (record { from = suc n; to = suc n })) (runs_that test n)) (alike (suc n) (omega arith) (omega arith))
    ∙ ap (λ l. cond (other (suc n)) (joined l (record { from = suc n; to = suc n })) l) (runs_that-alike test other n (λ place low high. alike place low (omega arith)))

-- ---- runs in order, with gaps, in the places from `low` to n

abbrev Parted : ℕ → ℕ → List Places → Type 0
Parted low n [] = ⊤
Parted low n (run ∷ runs) = ((low ≤ run.from) × (run.from ≤ run.to)) × (run.to ≤ n) × Parted (run.to + 2) n runs

parted-more : (low n : ℕ) (runs : List Places) → Parted low n runs → Parted low (n + 1) runs
parted-more low n [] h = tt
parted-more low n (run ∷ runs) h = (h.0, omega (arith, h.1), parted-more (run.to + 2) n runs h.2)

parted-joined : (low n : ℕ) (runs : List Places) → low ≤ n + 1 → Parted low n runs → Parted low (n + 1) (joined runs (record { from = suc n; to = suc n }))
parted-joined low n [] below h = ((omega arith, omega arith), omega arith, tt)
parted-joined low n (run ∷ []) below h =
    (elim (run.to + 1 == suc n) as (λ b. (run.to + 1 == suc n) ≡ b → Parted low (n + 1) (cond b (record { from = run.from; to = suc n } ∷ []) (run ∷ record { from = suc n; to = suc n } ∷ []))) [
      | true ↦ λ e. ((h.0.0, omega (arith, h.0.1, h.1)), omega arith, tt)
      | false ↦ λ e. (h.0, omega (arith, h.1), ((omega (arith, h.1, apart run.to n h.1 e), omega arith), omega arith, tt))
    ]) refl
  where
    apart : (a n : ℕ) → a ≤ n → (a + 1 == suc n) ≡ false → a < n
    apart a n h e = grind (arith, nat_tests)
parted-joined low n (run ∷ next ∷ runs) below h =
    (h.0, omega (arith, h.1), parted-joined (run.to + 2) n (next ∷ runs) (omega (arith, h.2.0.0, h.2.0.1, h.2.1)) h.2)

runs_that-parted : (test : ℕ → Bool) (n : ℕ) → Parted 1 n (runs_that test n)
runs_that-parted test zero = tt
runs_that-parted test (suc n) =
    elim (test (suc n)) as (λ b. Parted 1 (suc n) (cond b (joined (runs_that test n) (record { from = suc n; to = suc n })) (runs_that test n))) [
      | true ↦ next (joined (runs_that test n) (record { from = suc n; to = suc n })) (parted-joined 1 n (runs_that test n) (omega arith) (runs_that-parted test n))
      | false ↦ next (runs_that test n) (parted-more 1 n (runs_that test n) (runs_that-parted test n))
    ]
  where
    next : (runs : List Places) → Parted 1 (n + 1) runs → Parted 1 (suc n) runs
    next runs h = let e : n + 1 ≡ suc n = omega arith in subst (λ k. Parted 1 k runs) e h

are_parted-from : (low n : ℕ) (runs : List Places) → Parted low n runs → are_parted runs ≡ true
are_parted-from low n [] h = refl
are_parted-from low n (run ∷ []) h = le-leb run.from run.to h.0.1
are_parted-from low n (run ∷ next ∷ runs) h =
    both_true
    (both_true (le-leb run.from run.to h.0.1) (lt-ltb (run.to + 1) next.from (omega (arith, h.2.0.0))))
    (are_parted-from (run.to + 2) n (next ∷ runs) h.2)

-- runs are in order, with gaps
pub are_parted-runs_that : (test : ℕ → Bool) (n : ℕ) → are_parted (runs_that test n) ≡ true
are_parted-runs_that test n = are_parted-from 1 n (runs_that test n) (runs_that-parted test n)

-- ---- the places that runs hold

abbrev are_in : List Places → ℕ → Bool
are_in runs place = list_any (λ (run : Places). holds run place) runs

last_place : (n place : ℕ) → ((nat_le (suc n) place && nat_le place (suc n)) || false) ≡ (place == suc n)
last_place n place = grind (arith, nat_tests)

grown : (f t n place : ℕ) → f ≤ t → t ≡ n → ((nat_le f place && nat_le place (suc n)) || false) ≡ (((nat_le f place && nat_le place t) || false) || (place == suc n))
grown f t n place up e = grind (arith, nat_tests)

is_suc : (a n : ℕ) → (a + 1 == suc n) ≡ true → a ≡ n
is_suc a n e = grind (arith, nat_tests)

are_in-joined : (low n : ℕ) (runs : List Places) (place : ℕ) → Parted low n runs → are_in (joined runs (record { from = suc n; to = suc n })) place ≡ (are_in runs place || (place == suc n))
are_in-joined low n [] place h = last_place n place
are_in-joined low n (run ∷ []) place h =
    (elim (run.to + 1 == suc n) as (λ b. (run.to + 1 == suc n) ≡ b → are_in (cond b (record { from = run.from; to = suc n } ∷ []) (run ∷ record { from = suc n; to = suc n } ∷ [])) place ≡ (are_in (run ∷ []) place || (place == suc n))) [
      | true ↦ λ e. grown run.from run.to n place h.0.1 (is_suc run.to n e)
      | false ↦ λ e. ap (λ b. holds run place || b) (last_place n place) ∙ ap (λ b. b || (place == suc n)) (sym (or-false (holds run place)))
    ]) refl
are_in-joined low n (run ∷ next ∷ runs) place h =
    ap (λ b. holds run place || b) (are_in-joined (run.to + 2) n (next ∷ runs) place h.2)
    ∙ sym (or_assoc (holds run place) (are_in (next ∷ runs) place) (place == suc n))

no_place : (place : ℕ) (b : Bool) → false ≡ (nat_le 1 place && nat_le place zero && b)
no_place place b = grind (arith, nat_tests)

passes_too : (n place : ℕ) (test : ℕ → Bool) → test (suc n) ≡ true → ((nat_le 1 place && nat_le place n && test place) || (place == suc n)) ≡ (nat_le 1 place && nat_le place (suc n) && test place)
passes_too n place test passes = elim (cases_lt n place) [
  | inl above ↦ elim (cases_lt (suc n) place) [
    | inl past ↦ grind (arith, nat_tests)
    | inr upto ↦ let e : place ≡ suc n = omega arith in
        let here : test place ≡ true = ap test e ∙ passes in grind (arith, nat_tests)
  ]
  | inr within ↦ grind (arith, nat_tests)
]

fails_too : (n place : ℕ) (test : ℕ → Bool) → test (suc n) ≡ false → (nat_le 1 place && nat_le place n && test place) ≡ (nat_le 1 place && nat_le place (suc n) && test place)
fails_too n place test fails = elim (cases_lt n place) [
  | inl above ↦ elim (cases_lt (suc n) place) [
    | inl past ↦ grind (arith, nat_tests)
    | inr upto ↦ let e : place ≡ suc n = omega arith in
        let here : test place ≡ false = ap test e ∙ fails in grind (arith, nat_tests)
  ]
  | inr within ↦ grind (arith, nat_tests)
]

-- the runs hold exactly the places 1 to n that pass
pub are_in-runs_that : (test : ℕ → Bool) (n place : ℕ) → are_in (runs_that test n) place ≡ (nat_le 1 place && nat_le place n && test place)
are_in-runs_that test zero place = no_place place (test place)
are_in-runs_that test (suc n) place =
    (elim (test (suc n)) as (λ b. test (suc n) ≡ b → are_in (cond b (joined (runs_that test n) (record { from = suc n; to = suc n })) (runs_that test n)) place ≡ (nat_le 1 place && nat_le place (suc n) && test place)) [
      | true ↦ λ e.
          are_in-joined 1 n (runs_that test n) place (runs_that-parted test n)
          ∙ ap (λ b. b || (place == suc n)) (are_in-runs_that test n place)
          ∙ passes_too n place test e
      | false ↦ λ e. are_in-runs_that test n place ∙ fails_too n place test e
    ]) refl
