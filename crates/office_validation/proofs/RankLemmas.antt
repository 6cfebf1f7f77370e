-- The rank of a place among those whose items pass a test: how many items before it pass.
use Rattle.std.proofs.Common.{◌≡◌, ℕ, zero, suc, ◌+◌, ◌<◌, Bool, true, false, cond, not, ◌==◌, List, [], ◌∷◌, length, get_or, take, map, refl, ap, sym, ◌∙◌, subst, arith}
use Rattle.std.specs.Prelude.{count_by, nat_le}
use Rattle.std.specs.List.{list_any}
use Rattle.std.proofs.lemmas.Bool.Decides.{nat_tests}
use Rattle.std.proofs.lemmas.List.{length-map}
use Rattle.keyed_seq.specs.Positions.{places_passing}
use Rattle.office_validation.proofs.ValidKeyLemmas.{count-cons, counted-any}

next_places : (ps : List ℕ) (k : ℕ) → k < length ps → get_or (map suc ps) k 0 ≡ suc (get_or ps k 0)
next_places [] k h = absurd (omega arith)
next_places (p ∷ ps) zero h = refl
next_places (p ∷ ps) (suc k) h = next_places ps k (omega arith)

next_length : (ps : List ℕ) → length (map suc ps) ≡ length ps
next_length ps = length-map ps suc

zero_more : (n : ℕ) → 0 + n ≡ n
zero_more n = omega arith

one_more : (n : ℕ) → 1 + n ≡ suc n
one_more n = omega arith

first_ranked : {X : Type 0} (test : X → Bool) (x : X) (xs : List X) (k : ℕ) → test x ≡ true
    → ((j : ℕ) → j < length (places_passing test xs) → count_by test (take (get_or (places_passing test xs) j 0) xs) ≡ j)
    → k < length (0 ∷ map suc (places_passing test xs)) → count_by test (take (get_or (0 ∷ map suc (places_passing test xs)) k 0) (x ∷ xs)) ≡ k
first_ranked test x xs zero passes rest h = refl
first_ranked test x xs (suc k) passes rest h =
    let ps = places_passing test xs in
    let within : k < length ps = omega (arith, next_length ps, h) in
    ap (λ p. count_by test (take p (x ∷ xs))) (next_places ps k within)
    ∙ count-cons test x (take (get_or ps k 0) xs)
    ∙ ap (λ b. cond b 1 0 + count_by test (take (get_or ps k 0) xs)) passes
    ∙ ap (λ n. 1 + n) (rest k within)
    ∙ one_more k

-- the place of rank k has k items before it that pass
pub ranked : {X : Type 0} (test : X → Bool) (xs : List X) (k : ℕ) → k < length (places_passing test xs) → count_by test (take (get_or (places_passing test xs) k 0) xs) ≡ k
ranked test [] k = λ h. absurd (omega arith)
ranked test (x ∷ xs) k =
    let ps = places_passing test xs in
    (elim (test x) as (λ b. test x ≡ b → k < length (cond b (0 ∷ map suc ps) (map suc ps)) → count_by test (take (get_or (cond b (0 ∷ map suc ps) (map suc ps)) k 0) (x ∷ xs)) ≡ k) [
      | true ↦ λ passes. first_ranked test x xs k passes (ranked test xs)
      | false ↦ λ fails h.
          let within : k < length ps = omega (arith, next_length ps, h) in
          ap (λ p. count_by test (take p (x ∷ xs))) (next_places ps k within)
          ∙ count-cons test x (take (get_or ps k 0) xs)
          ∙ ap (λ b. cond b 1 0 + count_by test (take (get_or ps k 0) xs)) fails
          ∙ ap (λ n. 0 + n) (ranked test xs k within)
          ∙ zero_more k
    ]) refl

-- the place of an item that passes stands at its rank
pub record StandsAt (places : List ℕ) (rank place : ℕ) : Type 0 where
  pub within : rank < length places
  pub there : get_or places rank 0 ≡ place

next_stands : (ps : List ℕ) (rank place : ℕ) → StandsAt ps rank place → StandsAt (map suc ps) rank (suc place)
next_stands ps rank place s = record { within = omega (arith, next_length ps, s.within); there = next_places ps rank s.within ∙ ap suc s.there }

behind_stands : (ps : List ℕ) (rank place : ℕ) → StandsAt ps rank place → StandsAt (0 ∷ ps) (suc rank) place
behind_stands ps rank place s = record { within = omega (arith, s.within); there = s.there }

pub stands : {X : Type 0} (test : X → Bool) (xs : List X) (i : ℕ) (d : X) → i < length xs → test (get_or xs i d) ≡ true → StandsAt (places_passing test xs) (count_by test (take i xs)) i
stands test [] i d within passes = absurd (omega arith)
stands test (x ∷ xs) zero d within passes =
    let ps = places_passing test xs in
    let P : Bool → Type 0 = λ b. StandsAt (cond b (0 ∷ map suc ps) (map suc ps)) 0 0 in
    subst P (sym passes) (record { within = omega arith; there = refl })
stands test (x ∷ xs) (suc i) d within passes =
    let ps = places_passing test xs in
    let rank = count_by test (take i xs) in
    let next = next_stands ps rank i (stands test xs i d (omega arith) passes) in
    let P : ℕ → Type 0 = λ n. StandsAt (places_passing test (x ∷ xs)) n (suc i) in
    subst P (sym (count-cons test x (take i xs)))
    (elim (test x) as (λ b. StandsAt (cond b (0 ∷ map suc ps) (map suc ps)) (cond b 1 0 + rank) (suc i)) [
      | true ↦ (let Q : ℕ → Type 0 = λ n. StandsAt (0 ∷ map suc ps) n (suc i) in subst Q (sym (one_more rank)) (behind_stands (map suc ps) rank (suc i) next))
      | false ↦ (let Q : ℕ → Type 0 = λ n. StandsAt (map suc ps) n (suc i) in subst Q (sym (zero_more rank)) next)
    ])

-- the first place is that of an item exactly where no item before it passes
pub first-place : {X : Type 0} (test : X → Bool) (xs : List X) (i : ℕ) (d : X) → i < length xs → test (get_or xs i d) ≡ true
    → (get_or (places_passing test xs) 0 0 == i) ≡ not (list_any test (take i xs))
first-place test xs i d within passes =
    let ps = places_passing test xs in
    let rank = count_by test (take i xs) in
    let at = stands test xs i d within passes in
    let some : 0 < length ps = omega (arith, at.within) in
    let first = ranked test xs 0 some in
    let none = counted-any test (take i xs) in
    (elim (list_any test (take i xs)) as (λ b. nat_le 1 rank ≡ b → (get_or ps 0 0 == i) ≡ not b) [
      | true ↦ λ before.
          let apart : get_or ps 0 0 ≡ i → ⊥ = λ same.
          (let zero_rank : rank ≡ 0 = ap (λ p. count_by test (take p xs)) (sym same) ∙ first in let up : nat_le 1 0 ≡ true = ap (nat_le 1) (sym zero_rank) ∙ before in absurd (cc)) in
          grind (arith, nat_tests, apart)
      | false ↦ λ before.
          let zero_rank : rank ≡ 0 = grind (arith, nat_tests, before) in
          let same : get_or ps 0 0 ≡ i = ap (λ k. get_or ps k 0) (sym zero_rank) ∙ at.there in
          grind (arith, nat_tests, same)
    ]) none
