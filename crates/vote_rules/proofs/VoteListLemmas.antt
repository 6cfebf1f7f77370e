-- The first value that a function gives over a list, and lists in order of receipt.
use Rattle.std.proofs.Common.{◌≡◌, ℕ, suc, ◌+◌, ◌<◌, Bool, true, false, cond, List, [], ◌∷◌, ◌++◌, length, get_or, take, map, refl, sym, ap, ◌∙◌, arith}
use Rattle.std.specs.Prelude.{Option, Some, None, All, filter, find, reverse, option_and_then, is_some, sum_by}
use Rattle.std.specs.List.{cons_option, enumerate_from, filter_map}
use Rattle.std.specs.Option.{option_or}
use Rattle.std.proofs.lemmas.List.{reverse-append, take_more, length-take}
use Rattle.std.proofs.lemmas.List.Elements.{All-head, All-push, All-same, All-tail}
use Rattle.std.proofs.lemmas.List.Sums.{sum_by-cons}
use Rattle.vote_rules.specs.Casts.{find_map}

-- ---- options

pub or_none : {X : Type 0} (o : Option X) → option_or o None ≡ o
or_none None = refl
or_none (Some x) = refl

pub or_assoc : {X : Type 0} (a b c : Option X) → option_or (option_or a b) c ≡ option_or a (option_or b c)
or_assoc None b c = refl
or_assoc (Some x) b c = refl

-- ---- the first value that a function gives

pub find_map-append : {X Y : Type 0} (f : X → Option Y) (xs ys : List X) → find_map f (xs ++ ys) ≡ option_or (find_map f xs) (find_map f ys)
find_map-append f [] ys = refl
find_map-append f (x ∷ xs) ys = ap (option_or (f x)) (find_map-append f xs ys) ∙ sym (or_assoc (f x) (find_map f xs) (find_map f ys))

-- the first element is the last of a turned list
pub find_map-turned : {X Y : Type 0} (f : X → Option Y) (x : X) (xs : List X) → find_map f (reverse (x ∷ xs)) ≡ option_or (find_map f (reverse xs)) (f x)
find_map-turned f x xs =
    ap (find_map f) (reverse-append (x ∷ []) xs)
    ∙ find_map-append f (reverse xs) (x ∷ [])
    ∙ ap (option_or (find_map f (reverse xs))) (or_none (f x))

filtered_if : {X Y : Type 0} (f : X → Option Y) (b : Bool) (x : X) (xs : List X) → find_map f (cond b (x ∷ xs) xs) ≡ option_or (cond b (f x) None) (find_map f xs)
filtered_if f true x xs = refl
filtered_if f false x xs = refl

pub find_map-filter : {X Y : Type 0} (f : X → Option Y) (p : X → Bool) (xs : List X) → find_map f (filter p xs) ≡ find_map (λ x. cond (p x) (f x) None) xs
find_map-filter f p [] = refl
find_map-filter f p (x ∷ xs) = filtered_if f (p x) x (filter p xs) ∙ ap (option_or (cond (p x) (f x) None)) (find_map-filter f p xs)

given_if : {X Y : Type 0} (f : X → Option Y) (o : Option X) (xs : List X) → find_map f (cons_option o xs) ≡ option_or (option_and_then f o) (find_map f xs)
given_if f None xs = refl
given_if f (Some x) xs = refl

pub find_map-filter_map : {X Y Z : Type 0} (f : Y → Option Z) (h : X → Option Y) (xs : List X) → find_map f (filter_map h xs) ≡ find_map (λ x. option_and_then f (h x)) xs
find_map-filter_map f h [] = refl
find_map-filter_map f h (x ∷ xs) = given_if f (h x) (filter_map h xs) ∙ ap (option_or (option_and_then f (h x))) (find_map-filter_map f h xs)

-- two functions that agree on each element
pub find_map-agree : {X Y : Type 0} (f h : X → Option Y) (xs : List X) → All (λ x. f x ≡ h x) xs → find_map f xs ≡ find_map h xs
find_map-agree f h [] all = refl
find_map-agree f h (x ∷ xs) all =
    ap (λ o. option_or o (find_map f xs)) (All-head (λ y. f y ≡ h y) x xs all)
    ∙ ap (option_or (h x)) (find_map-agree f h xs (All-tail (λ y. f y ≡ h y) x xs all))

-- the value of the first element that has one
pub find-find_map : {X Y : Type 0} (f : X → Option Y) (xs : List X) → option_and_then f (find (λ x. is_some (f x)) xs) ≡ find_map f xs
find-find_map f [] = refl
find-find_map {X} {Y} f (x ∷ xs) =
    (elim (f x) as (λ o. f x ≡ o → option_and_then f (cond (is_some o) (Some x) (find (λ y. is_some (f y)) xs)) ≡ option_or o (find_map f xs)) [
      | None ↦ λ e. find-find_map f xs
      | Some y ↦ λ e. e
    ]) refl

-- ---- elements

pub All-reverse : {X : Type 0} (P : X → Type 0) (xs : List X) → All P xs → All P (reverse xs)
All-reverse P [] all = all
All-reverse P (x ∷ xs) all =
    All-same P (reverse (x ∷ xs)) (reverse xs ++ x ∷ []) (reverse-append (x ∷ []) xs)
    (All-push P (reverse xs) x (All-reverse P xs (All-tail P x xs all)) (All-head P x xs all))

pub find-agree : {X : Type 0} (p q : X → Bool) (xs : List X) → All (λ x. p x ≡ q x) xs → find p xs ≡ find q xs
find-agree p q [] all = refl
find-agree p q (x ∷ xs) all =
    ap (λ b. cond b (Some x) (find p xs)) (All-head (λ y. p y ≡ q y) x xs all)
    ∙ ap (cond (q x) (Some x)) (find-agree p q xs (All-tail (λ y. p y ≡ q y) x xs all))

pub sum_by-agree : {X : Type 0} (f g : X → ℕ) (xs : List X) → All (λ x. f x ≡ g x) xs → sum_by f xs ≡ sum_by g xs
sum_by-agree f g [] all = refl
sum_by-agree f g (x ∷ xs) all =
    let here = All-head (λ y. f y ≡ g y) x xs all in
    let rest = sum_by-agree f g xs (All-tail (λ y. f y ≡ g y) x xs all) in
    omega (arith, sum_by-cons f x xs, sum_by-cons g x xs, here, rest)

-- ---- places in the order of receipt

enumerate-append : {X : Type 0} (n : ℕ) (xs ys : List X) → enumerate_from n (xs ++ ys) ≡ enumerate_from n xs ++ enumerate_from (n + length xs) ys
enumerate-append n [] ys = let e : n ≡ n + 0 = omega arith in ap (λ k. enumerate_from k ys) e
enumerate-append n (x ∷ xs) ys =
    let e : n + 1 + length xs ≡ n + suc (length xs) = omega arith in
    ap (λ l. (n, x) ∷ l) (enumerate-append (n + 1) xs ys ∙ ap (λ k. enumerate_from (n + 1) xs ++ enumerate_from k ys) e)

-- one element more
pub enumerate_more : {X : Type 0} (xs : List X) (i : ℕ) (x : X) → i < length xs → x ≡ get_or xs i x → enumerate_from 0 (take (i + 1) xs) ≡ enumerate_from 0 (take i xs) ++ (i, x) ∷ []
enumerate_more xs i x lt is =
    let e : 0 + length (take i xs) ≡ i = omega (arith, length-take i xs) in
    ap (enumerate_from 0) (take_more xs i x lt ∙ ap (λ y. take i xs ++ y ∷ []) (sym is))
    ∙ enumerate-append 0 (take i xs) (x ∷ [])
    ∙ ap (λ k. enumerate_from 0 (take i xs) ++ (k, x) ∷ []) e

-- a value that is put where a test passes, and what was there where it does not
pub filtered_place : {X : Type 0} (b : Bool) (x : X) (o : Option X) → cond b (Some x) o ≡ option_or (cond b (Some x) None) o
filtered_place true x o = refl
filtered_place false x o = refl

-- a function over the values of another
pub filter_map_mapped : {X Y Z : Type 0} (f : Y → Option Z) (h : X → Y) (xs : List X) → filter_map f (map h xs) ≡ filter_map (λ x. f (h x)) xs
filter_map_mapped f h [] = refl
filter_map_mapped f h (x ∷ xs) = ap (cons_option (f (h x))) (filter_map_mapped f h xs)
