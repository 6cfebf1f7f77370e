-- Lists that are compared value by value.
use Rattle.std.proofs.Common.{◌≡◌, Bool, true, ◌&&◌, ◌==◌, List, [], ◌∷◌, length, refl, ap, sym, ◌∙◌, arith}
use Rattle.std.specs.Bool.{Decides}
use Rattle.std.specs.Cmp.{first_so, second_so}
use Rattle.std.specs.Cmp.Derive.{both_true}
use Rattle.std.specs.List.{list_all, zip}
use Rattle.std.proofs.lemmas.Bool.{eqb-true, eq-eqb}

-- each pair of the two lists passes the test
abbrev each : {X : Type 0} → (X → X → Bool) → List X → List X → Bool
each test a b = list_all (λ pair. test pair.0 pair.1) (zip a b)

equal : {X : Type 0} (test : X → X → Bool) → ((a b : X) → Decides (test a b) (a ≡ b)) → (a b : List X) → length a ≡ length b → each test a b ≡ true → a ≡ b
equal test so [] [] e h = refl
equal test so [] (y ∷ ys) e h = absurd (omega arith)
equal test so (x ∷ xs) [] e h = absurd (omega arith)
equal test so (x ∷ xs) (y ∷ ys) e h =
    let first = (so x y).0 (first_so (test x y) (each test xs ys) h) in
    let rest = equal test so xs ys (omega arith) (second_so (test x y) (each test xs ys) h) in
    λ i. first i ∷ rest i

each-refl : {X : Type 0} (test : X → X → Bool) → ((a b : X) → Decides (test a b) (a ≡ b)) → (a : List X) → each test a a ≡ true
each-refl test so [] = refl
each-refl test so (x ∷ xs) = both_true ((so x x).1 refl) (each-refl test so xs)

-- lists that are as long, and whose pairs all pass a test of equality, are equal; and no others
pub pairs-Decides : {X : Type 0} (test : X → X → Bool) → ((a b : X) → Decides (test a b) (a ≡ b)) → (a b : List X)
    → Decides (length a == length b && list_all (λ pair. test pair.0 pair.1) (zip a b)) (a ≡ b)
pairs-Decides test so a b = (
  λ h. equal test so a b (eqb-true (length a) (length b) (first_so (length a == length b) (each test a b) h)) (second_so (length a == length b) (each test a b) h),
  λ e. ap (λ xs. length a == length xs && each test a xs) (sym e) ∙ both_true (eq-eqb (length a) (length a) refl) (each-refl test so a),
)

-- of lists that are as long, what each pair answers decides it
pub each_pair-Decides : {X : Type 0} (test : X → X → Bool) → ((a b : X) → Decides (test a b) (a ≡ b)) → (a b : List X) (answer : Bool) → length a ≡ length b
    → answer ≡ list_all (λ pair. test pair.0 pair.1) (zip a b) → Decides answer (a ≡ b)
each_pair-Decides test so a b answer e h =
    (λ t. equal test so a b e (sym h ∙ t), λ same. h ∙ ap (each test a) (sym same) ∙ each-refl test so a)
