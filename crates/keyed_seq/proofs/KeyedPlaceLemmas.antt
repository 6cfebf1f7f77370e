-- The places of the items that pass a test.
use Rattle.std.proofs.Common.{◌≡◌, ℕ, suc, ◌<◌, Bool, true, false, cond, not, ◌||◌, ◌==◌, List, [], ◌∷◌, ◌++◌, length, map, refl, ap, ◌∙◌, arith}
use Rattle.std.specs.List.{All, cons_option, filter, filter_map, list_any, slice_get}
use Rattle.std.proofs.lemmas.Bool.Decides.{nat_tests}
use Rattle.std.proofs.lemmas.List.{map-append, length-map}
use Rattle.std.proofs.lemmas.List.Elements.{All-nil, All-cons, All-map, All-weaker}
use Rattle.keyed_seq.specs.Positions.{places_passing}

-- the first place, where the first item passes, before the others, which are one further on
abbrev place_first : Bool → List ℕ → List ℕ
place_first b places = cond b (0 ∷ map suc places) (map suc places)

place_first-more : (b c : Bool) (places : List ℕ) (n : ℕ) → place_first b (places ++ cond c (n ∷ []) []) ≡ place_first b places ++ cond c (suc n ∷ []) []
place_first-more true true places n = ap (λ l. 0 ∷ l) (map-append suc places (n ∷ []))
place_first-more true false places n = ap (λ l. 0 ∷ l) (map-append suc places [])
place_first-more false true places n = map-append suc places (n ∷ [])
place_first-more false false places n = map-append suc places []

-- one item more has its place behind the others, where it passes
pub places_that-more : {A : Type 0} (test : A → Bool) (xs : List A) (x : A) → places_passing test (xs ++ x ∷ []) ≡ places_passing test xs ++ cond (test x) (length xs ∷ []) []
places_that-more test [] x = refl
places_that-more test (y ∷ ys) x =
    ap (place_first (test y)) (places_that-more test ys x) ∙ place_first-more (test y) (test x) (places_passing test ys) (length ys)

-- each place is in the list
pub places_that-within : {A : Type 0} (test : A → Bool) (xs : List A) → All (λ place. place < length xs) (places_passing test xs)
places_that-within test [] = All-nil _
places_that-within test (x ∷ xs) =
    let further : All (λ place. place < suc (length xs)) (map suc (places_passing test xs)) =
    All-map (λ place. place < suc (length xs)) suc (places_passing test xs) (All-weaker (λ place. place < length xs) (λ place. suc place < suc (length xs)) (λ place below. omega arith) (places_passing test xs) (places_that-within test xs)) in
    (elim (test x) as (λ b. All (λ place. place < suc (length xs)) (place_first b (places_passing test xs))) [
      | true ↦ All-cons (λ place. place < suc (length xs)) 0 _ (omega arith) further
      | false ↦ further
    ])

filter_map-further : {A : Type 0} (x : A) (xs : List A) (places : List ℕ) → filter_map (slice_get (x ∷ xs)) (map suc places) ≡ filter_map (slice_get xs) places
filter_map-further x xs [] = refl
filter_map-further x xs (p ∷ ps) = ap (cons_option (slice_get xs p)) (filter_map-further x xs ps)

-- the items at the places are those that pass
pub items_at-places_that : {A : Type 0} (test : A → Bool) (xs : List A) → filter_map (slice_get xs) (places_passing test xs) ≡ filter test xs
items_at-places_that test [] = refl
items_at-places_that test (x ∷ xs) =
    let further = filter_map-further x xs (places_passing test xs) ∙ items_at-places_that test xs in
    (elim (test x) as (λ b. filter_map (slice_get (x ∷ xs)) (place_first b (places_passing test xs)) ≡ cond b (x ∷ filter test xs) (filter test xs)) [
      | true ↦ ap (λ l. x ∷ l) further
      | false ↦ further
    ])

one_more : (n : ℕ) → not (suc n == 0) ≡ true
one_more n = grind (arith, nat_tests)

-- there is a place exactly where an item passes
pub any-places_that : {A : Type 0} (test : A → Bool) (xs : List A) → not (length (places_passing test xs) == 0) ≡ list_any test xs
any-places_that test [] = refl
any-places_that test (x ∷ xs) =
    elim (test x) as (λ b. not (length (place_first b (places_passing test xs)) == 0) ≡ (b || list_any test xs)) [
      | true ↦ one_more (length (map suc (places_passing test xs)))
      | false ↦ ap (λ n. not (n == 0)) (length-map (places_passing test xs) suc) ∙ any-places_that test xs
    ]
