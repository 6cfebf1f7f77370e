-- What is kept of a list, and of a list with one value more.
use Rattle.std.proofs.Common.{◌≡◌, ℕ, Bool, true, false, ◌&&◌, not, cond, List, [], ◌∷◌, ◌++◌, map, filter, refl, ap, ◌∙◌}
use Rattle.std.specs.Prelude.{Option, Some, None, find}
use Rattle.std.specs.Cmp.{first_so, second_so}
use Rattle.std.specs.Cmp.Derive.{both_true}
use Rattle.std.specs.List.{list_all}
use Rattle.std.proofs.lemmas.List.{map-append}
use Rattle.std.proofs.lemmas.List.Folds.{list_all-append}
use Rattle.seq.proofs.Filtered.{all-filter}
use Rattle.vocabulary.specs.Names.{same_name}
use Rattle.desk_words.specs.Office.{implies}
use Rattle.party_views.specs.PartyRows.{parties_once}

-- ---- one value more

pub filter-more : {X : Type 0} (p : X → Bool) (xs : List X) (x : X) → filter p (xs ++ x ∷ []) ≡ cond (p x) (filter p xs ++ x ∷ []) (filter p xs)
filter-more p [] x = refl
filter-more p (y ∷ ys) x =
    elim (p y) as (λ b. cond b (y ∷ filter p (ys ++ x ∷ [])) (filter p (ys ++ x ∷ []))
    ≡ cond (p x) (cond b (y ∷ filter p ys) (filter p ys) ++ x ∷ []) (cond b (y ∷ filter p ys) (filter p ys))) [
      | true ↦ ap (λ l. y ∷ l) (filter-more p ys x) ∙ out (p x)
      | false ↦ filter-more p ys x
    ]
  where
    out : (b : Bool) → y ∷ cond b (filter p ys ++ x ∷ []) (filter p ys) ≡ cond b ((y ∷ filter p ys) ++ x ∷ []) (y ∷ filter p ys)
    out true = refl
    out false = refl

-- what is made of those that pass
pub made-more : {X Y : Type 0} (make : X → Y) (p : X → Bool) (xs : List X) (x : X)
    → map make (filter p (xs ++ x ∷ [])) ≡ cond (p x) (map make (filter p xs) ++ make x ∷ []) (map make (filter p xs))
made-more make p xs x =
    ap (map make) (filter-more p xs x)
    ∙ elim (p x) as (λ b. map make (cond b (filter p xs ++ x ∷ []) (filter p xs)) ≡ cond b (map make (filter p xs) ++ make x ∷ []) (map make (filter p xs))) [
      | true ↦ map-append make (filter p xs) (x ∷ [])
      | false ↦ refl
    ]

pub all-more : {X : Type 0} (p : X → Bool) (xs : List X) (x : X) → list_all p xs ≡ true → p x ≡ true → list_all p (xs ++ x ∷ []) ≡ true
all-more p xs x all good = list_all-append p xs (x ∷ []) ∙ both_true all (ap (λ b. b && true) good)

-- what is seen alike of a value and of none does not show that it was added
pub added-unseen : {X Y : Type 0} (view : Option X → Y) (p : X → Bool) (new : X) (xs : List X) → view (Some new) ≡ view None → view (find p (xs ++ new ∷ [])) ≡ view (find p xs)
added-unseen view p new [] same =
    elim (p new) as (λ b. view (cond b (Some new) None) ≡ view None) [ true ↦ same | false ↦ refl ]
added-unseen view p new (x ∷ xs) same =
    elim (p x) as (λ b. view (cond b (Some x) (find p (xs ++ new ∷ []))) ≡ view (cond b (Some x) (find p xs)))
    [ true ↦ refl | false ↦ added-unseen view p new xs same ]

-- ---- parts of lists

pub implied : (a b : Bool) → (a ≡ true → b ≡ true) → implies a b ≡ true
implied true b h = h refl
implied false b h = refl

pub all-of : {X : Type 0} (p : X → Bool) (xs : List X) → ((x : X) → p x ≡ true) → list_all p xs ≡ true
all-of p [] h = refl
all-of p (x ∷ xs) h = both_true (h x) (all-of p xs h)

-- where each value that passes one test passes another too, those are found among these
pub filter-among : {X : Type 0} (test wider : X → Bool) (xs : List X) → list_all (λ x. implies (test x) (wider x)) xs ≡ true → filter test (filter wider xs) ≡ filter test xs
filter-among test wider [] all = refl
filter-among test wider (x ∷ xs) all =
    let head = first_so (implies (test x) (wider x)) (list_all (λ y. implies (test y) (wider y)) xs) all in
    let rest = filter-among test wider xs (second_so (implies (test x) (wider x)) (list_all (λ y. implies (test y) (wider y)) xs) all) in
    (elim (wider x) as (λ w. implies (test x) w ≡ true → filter test (cond w (x ∷ filter wider xs) (filter wider xs)) ≡ cond (test x) (x ∷ filter test xs) (filter test xs)) [
      | true ↦ λ h. ap (λ l. cond (test x) (x ∷ l) l) rest
      | false ↦ λ h. (elim (test x) as (λ t. implies t false ≡ true → filter test (filter wider xs) ≡ cond t (x ∷ filter test xs) (filter test xs)) [
        | true ↦ λ no. absurd (cc)
        | false ↦ λ yes. rest
      ]) h
    ]) head

pub all-within : {X : Type 0} (p q : X → Bool) (xs : List X) → list_all (λ x. implies (q x) (p x)) xs ≡ true → list_all p (filter q xs) ≡ true
all-within p q [] all = refl
all-within p q (x ∷ xs) all =
    let head = first_so (implies (q x) (p x)) (list_all (λ y. implies (q y) (p y)) xs) all in
    let rest = all-within p q xs (second_so (implies (q x) (p x)) (list_all (λ y. implies (q y) (p y)) xs) all) in
    (elim (q x) as (λ b. implies b (p x) ≡ true → list_all p (cond b (x ∷ filter q xs) (filter q xs)) ≡ true)
    [ true ↦ λ h. both_true h rest | false ↦ λ h. rest ]) head

-- two functions that make the same of each value that passes
pub map-among : {X Y : Type 0} (f h : X → Y) (p : X → Bool) (xs : List X) → list_all p xs ≡ true → ((x : X) → p x ≡ true → f x ≡ h x) → map f xs ≡ map h xs
map-among f h p [] all same = refl
map-among f h p (x ∷ xs) all same =
    let head : f x ≡ h x = same x (first_so (p x) (list_all p xs) all) in
    let tail : map f xs ≡ map h xs = map-among f h p xs (second_so (p x) (list_all p xs) all) same in
    λ i. head i ∷ tail i

pub all-each_once : (p : List ℕ → Bool) (xs : List (List ℕ)) → list_all p xs ≡ true → list_all p (parties_once xs) ≡ true
all-each_once p [] all = refl
all-each_once p (x ∷ xs) all =
    both_true (first_so (p x) (list_all p xs) all)
    (all-filter p (λ other. not (same_name other x)) (parties_once xs) (all-each_once p xs (second_so (p x) (list_all p xs) all)))
