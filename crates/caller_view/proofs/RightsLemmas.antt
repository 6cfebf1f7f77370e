-- Places that pass a test from one to another, and what is found among a party's own things.
use Rattle.std.proofs.Common.{◌≡◌, ℕ, zero, suc, ◌+◌, ◌<◌, ◌≤◌, Bool, true, false, not, ◌&&◌, cond, List, find, Some, None, refl, sym, ap, ◌∙◌, arith}
use Rattle.std.specs.Prelude.{nat_eq, nat_le, nat_lt, Option, IfSome}
use Rattle.seq.proofs.Filtered.{found-any, found-passes, none-found}
use Rattle.vocabulary.specs.Names.{same_name}
use Rattle.std.specs.List.{list_any}
use Rattle.std.proofs.lemmas.Bool.{and_parts}
use Rattle.std.proofs.lemmas.Bool.Decides.{nat_tests}
use Rattle.vocabulary.specs.Places.{Places, holds, places_that}
use Rattle.desk_words.specs.declared.own_things.Received.{Received}
use Rattle.desk_words.specs.declared.request.NewCast.{NewCast}
use Rattle.caller_view.specs.Rights.{Governs, IsRunAt, governs_at, is_governed, some_fail}

-- ---- places

one_more : (b : Bool) (n : ℕ) → n ≤ n + cond b 1 0
one_more true n = omega arith
one_more false n = omega arith

-- a place that passes is counted
counted : (test : ℕ → Bool) (n place : ℕ) → 1 ≤ place → place ≤ n → test place ≡ true → 1 ≤ places_that test n
counted test zero place one below passes = absurd (omega (arith, one, below))
counted test (suc n) place one below passes =
    (elim (nat_eq place (suc n)) as (λ b. nat_eq place (suc n) ≡ b → 1 ≤ places_that test (suc n)) [
      | true ↦ λ same.
          let is : place ≡ suc n = grind (arith, nat_tests, same) in
          let here : test (suc n) ≡ true = ap test (sym is) ∙ passes in
          rw here (omega arith)
      | false ↦ λ other.
          let before : place ≤ n = grind (arith, nat_tests, other, below) in
          omega (arith, counted test n place one before passes, one_more (test (suc n)) (places_that test n))
    ]) refl

-- where none passes none is counted
none_counted : (test : ℕ → Bool) (n : ℕ) → ((place : ℕ) → 1 ≤ place → place ≤ n → test place ≡ false) → places_that test n ≡ 0
none_counted test zero none = refl
none_counted test (suc n) none =
    rw (none (suc n) (omega arith) (omega arith), none_counted test n (λ place one below. none place one (omega (arith, below)))) refl

-- one that fails
pub fails_at : (test : ℕ → Bool) (from to place : ℕ) → 1 ≤ place → from ≤ place → place ≤ to → test place ≡ false → some_fail test from to ≡ true
fails_at test from to place one after before fails =
    let counts : (nat_le from place && not (test place)) ≡ true = rw fails (grind (arith, nat_tests, after)) in
    let some : 1 ≤ places_that (λ place. nat_le from place && not (test place)) to = counted (λ place. nat_le from place && not (test place)) to place one before counts in
    grind (arith, nat_tests, some)

-- none that fails
pub none_fails : (test : ℕ → Bool) (from to : ℕ) → ((place : ℕ) → 1 ≤ place → from ≤ place → place ≤ to → test place ≡ true) → some_fail test from to ≡ false
none_fails test from to all =
    let none : (place : ℕ) → 1 ≤ place → place ≤ to → (nat_le from place && not (test place)) ≡ false =
    λ place one before. (elim (nat_le from place) as (λ b. nat_le from place ≡ b → (b && not (test place)) ≡ false) [
      | true ↦ λ after. rw (all place one (grind (arith, nat_tests, after)) before) refl
      | false ↦ λ sooner. refl
    ]) refl in
    ap (nat_lt 0) (none_counted (λ place. nat_le from place && not (test place)) to none)

-- ---- what is found

-- a run that has the place, of an appointment that governs it
pub run_found : (received : List Received) (governs : Governs) (new : NewCast) (place : ℕ) (r : Received) (found : Option Places)
    → find (governs_at governs new place) received ≡ Some r → found ≡ find (λ (run : Places). holds run place) (governs r)
    → IfSome found (λ run. IsRunAt received governs new place run)
run_found received governs new place r None there is = search
run_found received governs new place r (Some run) there is =
    let runs = governs r in
    let of_member = and_parts (same_name r.member new.member) (list_any (λ (run : Places). holds run place) runs) (found-passes (governs_at governs new place) received r there) in
    record {
      there = found-passes (λ (run : Places). holds run place) runs run (sym is);
      governed = λ other has.
          let some : list_any (λ (run : Places). holds run other) runs ≡ true = found-any (λ (run : Places). holds run place) (λ (run : Places). holds run other) runs run (sym is) has in
          let here : governs_at governs new other r ≡ true = rw (of_member.0, some) refl in
          found-any (governs_at governs new place) (governs_at governs new other) received r there here;
    }

-- an appointment that governs the place has a run that has it
pub run_lacks : (received : List Received) (governs : Governs) (new : NewCast) (place : ℕ) (r : Received)
    → find (governs_at governs new place) received ≡ Some r → find (λ (run : Places). holds run place) (governs r) ≡ None → ⊥
run_lacks received governs new place r there none =
    let runs = governs r in
    let of_member = and_parts (same_name r.member new.member) (list_any (λ (run : Places). holds run place) runs) (found-passes (governs_at governs new place) received r there) in
    let lacks : list_any (λ (run : Places). holds run place) runs ≡ false = none-found (λ (run : Places). holds run place) runs none in
    absurd (cc)

-- all places from the first to the next are governed
pub record IsGovernedTo (received : List Received) (governs : Governs) (new : NewCast) (next : ℕ) : Type 0 where
  pub begun : 1 ≤ next
  pub after : new.from ≤ next
  pub governed : (place : ℕ) → 1 ≤ place → new.from ≤ place → place < next → is_governed received governs new place ≡ true
