-- Values with their numbers.
use Rattle.std.proofs.Common.{◌≡◌, ℕ, suc, ◌+◌, List, [], ◌∷◌, ◌++◌, length, map, refl, ap, ◌∙◌, arith}
use Rattle.party_views.specs.SessionLists.{enumerate_from}

-- there are as many
pub length-numbered : {X Y : Type 0} (f : ℕ → X → Y) (n : ℕ) (xs : List X) → length (enumerate_from f n xs) ≡ length xs
length-numbered f n [] = refl
length-numbered f n (x ∷ xs) = ap suc (length-numbered f (suc n) xs)

-- one value more has the next number
pub numbered-more : {X Y : Type 0} (f : ℕ → X → Y) (n : ℕ) (xs : List X) (x : X) → enumerate_from f n (xs ++ x ∷ []) ≡ enumerate_from f n xs ++ f (n + length xs) x ∷ []
numbered-more f n [] x =
    let same : n ≡ n + 0 = omega arith in
    ap (λ k. f k x ∷ []) same
numbered-more f n (y ∷ ys) x =
    let same : suc n + length ys ≡ n + suc (length ys) = omega arith in
    ap (λ zs. f n y ∷ zs) (numbered-more f (suc n) ys x ∙ ap (λ k. enumerate_from f (suc n) ys ++ f k x ∷ []) same)

-- what is made of each
pub map-numbered : {X Y Z : Type 0} (g : Y → Z) (f : ℕ → X → Y) (n : ℕ) (xs : List X) → map g (enumerate_from f n xs) ≡ enumerate_from (λ k x. g (f k x)) n xs
map-numbered g f n [] = refl
map-numbered g f n (x ∷ xs) = ap (λ zs. g (f n x) ∷ zs) (map-numbered g f (suc n) xs)
