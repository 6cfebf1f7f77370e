-- How often values stand that are alike.
use Rattle.std.proofs.Common.{◌≡◌, ℕ, suc, ◌+◌, ◌≤◌, Bool, true, false, cond, not, ◌||◌, ◌&&◌, List, [], ◌∷◌, length, map, refl, ap, sym, ◌∙◌, arith}
use Rattle.std.specs.Prelude.{count_by, nat_le}
use Rattle.std.specs.List.{list_all, list_any}
use Rattle.std.proofs.lemmas.Bool.Decides.{nat_tests}
use Rattle.std.proofs.lemmas.Bool.{or_parts}
use Rattle.std.proofs.lemmas.List.{length-map}
use Rattle.std.proofs.lemmas.List.Sums.{sum_by-cons}
use Rattle.keyed_seq.specs.Positions.{places_passing}
use Rattle.seq.specs.Ordered.{differ_by}

pub count-cons : {X : Type 0} (p : X → Bool) (x : X) (xs : List X) → count_by p (x ∷ xs) ≡ cond (p x) 1 0 + count_by p xs
count-cons p x xs = sum_by-cons (λ y. cond (p y) 1 0) x xs

-- there are as many places as items that pass
pub length-places_that : {X : Type 0} (test : X → Bool) (xs : List X) → length (places_passing test xs) ≡ count_by test xs
length-places_that test [] = refl
length-places_that test (x ∷ xs) =
    let more = length-map (places_passing test xs) suc ∙ length-places_that test xs in
    (elim (test x) as (λ b. length (cond b (0 ∷ map suc (places_passing test xs)) (map suc (places_passing test xs))) ≡ cond b 1 0 + count_by test xs)
    [ true ↦ omega (arith, more) | false ↦ omega (arith, more) ])
    ∙ sym (count-cons test x xs)

above_none : (n : ℕ) (any : Bool) → nat_le 1 n ≡ any → nat_le (1 + n) 1 ≡ not any
above_none n true h = grind (arith, nat_tests)
above_none n false h = grind (arith, nat_tests)

one_more : (n : ℕ) (b : Bool) → nat_le 1 n ≡ b → nat_le 1 (1 + n) ≡ true
one_more n b h = grind (arith, nat_tests)

zero_more : (n : ℕ) → 0 + n ≡ n
zero_more n = omega arith

-- values that pass are counted exactly where there are some
pub counted-any : {X : Type 0} (p : X → Bool) (xs : List X) → nat_le 1 (count_by p xs) ≡ list_any p xs
counted-any p [] = refl
counted-any p (x ∷ xs) =
    ap (nat_le 1) (count-cons p x xs)
    ∙ (elim (p x) as (λ b. nat_le 1 (cond b 1 0 + count_by p xs) ≡ (b || list_any p xs))
    [ true ↦ one_more (count_by p xs) (list_any p xs) (counted-any p xs) | false ↦ ap (nat_le 1) (zero_more (count_by p xs)) ∙ counted-any p xs ])

-- where no value passes a test, tests that agree on all others agree on the list
all_but : {X : Type 0} (p q r : X → Bool) (xs : List X) → ((x : X) → r x ≡ false → p x ≡ q x) → list_any r xs ≡ false → list_all p xs ≡ list_all q xs
all_but p q r [] k h = refl
all_but p q r (x ∷ xs) k h =
    let both = or_parts (r x) (list_any r xs) h in ap (λ b. b && list_all p xs) (k x both.0) ∙ ap (λ b. q x && b) (all_but p q r xs k both.1)

-- how often a value stands, up to a likeness
abbrev pub once : {X : Type 0} → (X → X → Bool) → List X → X → Bool
once alike xs x = nat_le (count_by (λ other. alike other x) xs) 1

once-cons : {X : Type 0} (alike : X → X → Bool) (x : X) (xs : List X) (y : X) → alike x y ≡ false → once alike (x ∷ xs) y ≡ once alike xs y
once-cons alike x xs y other =
    ap (λ n. nat_le n 1) (count-cons (λ z. alike z y) x xs) ∙ ap (λ b. nat_le (cond b 1 0 + count_by (λ z. alike z y) xs) 1) other ∙ ap (λ n. nat_le n 1) (zero_more (count_by (λ z. alike z y) xs))

once-first : {X : Type 0} (alike : X → X → Bool) (x : X) (xs : List X) → alike x x ≡ true → ((a b : X) → alike a b ≡ alike b a) → once alike (x ∷ xs) x ≡ not (list_any (alike x) xs)
once-first alike x xs self turned =
    ap (λ n. nat_le n 1) (count-cons (λ z. alike z x) x xs) ∙ ap (λ b. nat_le (cond b 1 0 + count_by (λ z. alike z x) xs) 1) self
    ∙ above_none (count_by (λ z. alike z x) xs) (list_any (alike x) xs) (counted-any (λ z. alike z x) xs ∙ ap (λ test. list_any test xs) (λ i z. turned z x i))

-- values differ where each stands once
pub differ-once : {X : Type 0} (alike : X → X → Bool) → ((a : X) → alike a a ≡ true) → ((a b : X) → alike a b ≡ alike b a) → (xs : List X) → list_all (once alike xs) xs ≡ differ_by alike xs
differ-once alike self turned [] = refl
differ-once alike self turned (x ∷ xs) =
    ap (λ b. b && list_all (once alike (x ∷ xs)) xs) (once-first alike x xs (self x) turned)
    ∙ ((elim (list_any (alike x) xs) as (λ b. list_any (alike x) xs ≡ b → (not b && list_all (once alike (x ∷ xs)) xs) ≡ (not b && differ_by alike xs)) [
      | true ↦ λ _. refl
      | false ↦ λ none. all_but (once alike (x ∷ xs)) (once alike xs) (alike x) xs (λ y. once-cons alike x xs y) none ∙ differ-once alike self turned xs
    ]) refl)
