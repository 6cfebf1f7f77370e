-- Keys that are numbers: the words on an order as tests of the numbers.
use Rattle.std.proofs.Common.{◌≡◌, ℕ, ◌<◌, List, refl, ap, arith, Ordering}
use Rattle.std.specs.Prelude.{◌==◌, nat_lt}
use Rattle.std.specs.Ordering.{is_lt, is_eq, nat_cmp, MatchOrdering}
use Rattle.std.proofs.lemmas.Bool.Decides.{nat_tests}
use Rattle.std.proofs.lemmas.Cmp.{ranked}
use Rattle.seq.specs.Ordered.{ascends_by, differ_by, key_before, same_key}

lt_ranked : (a b : ℕ) (answer : Ordering) → MatchOrdering answer (a < b) (a ≡ b) (b < a) → is_lt answer ≡ nat_lt a b
lt_ranked a b answer says = grind (arith, nat_tests)

eq_ranked : (a b : ℕ) (answer : Ordering) → MatchOrdering answer (a < b) (a ≡ b) (b < a) → is_eq answer ≡ (a == b)
eq_ranked a b answer says = grind (arith, nat_tests)

pub is_lt-nat_cmp : (a b : ℕ) → is_lt (nat_cmp a b) ≡ nat_lt a b
is_lt-nat_cmp a b = lt_ranked a b (nat_cmp a b) (ranked a b (nat_cmp a b) refl)

pub is_eq-nat_cmp : (a b : ℕ) → is_eq (nat_cmp a b) ≡ (a == b)
is_eq-nat_cmp a b = eq_ranked a b (nat_cmp a b) (ranked a b (nat_cmp a b) refl)

module _ {X : Type 0} (key : X → ℕ) (xs : List X) where
  -- a list in order is one whose numbers rise
  pub ascends_by-numbers : ascends_by (key_before key nat_cmp) xs ≡ ascends_by (λ a b. nat_lt (key a) (key b)) xs
  ascends_by-numbers = ap (λ before. ascends_by before xs) (λ i a b. is_lt-nat_cmp (key a) (key b) i)

  -- keys differ where no two numbers are equal
  pub differ_by-numbers : differ_by (same_key key nat_cmp) xs ≡ differ_by (λ a b. key a == key b) xs
  differ_by-numbers = ap (λ alike. differ_by alike xs) (λ i a b. is_eq-nat_cmp (key a) (key b) i)
