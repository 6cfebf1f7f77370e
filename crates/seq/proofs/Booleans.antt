-- What a test says of its parts, where the library has no lemma of it.
use Rattle.std.proofs.Common.{◌≡◌, ℕ, ◌<◌, ◌≤◌, Bool, true, false, ◌||◌, cond, refl, arith, Ordering, Less, Equal, Greater}
use Rattle.std.specs.Prelude.{◌==◌}
use Rattle.std.specs.Ordering.{is_lt}
use Rattle.std.proofs.lemmas.Bool.{or_parts}
use Rattle.std.proofs.lemmas.Bool.Decides.{nat_tests}

pub neither_first : (a b : Bool) → (a || b) ≡ false → a ≡ false
neither_first a b none = (or_parts a b none).0

pub neither_second : (a b : Bool) → (a || b) ≡ false → b ≡ false
neither_second a b none = (or_parts a b none).1

-- of two tests in turn with one outcome, either may pass
pub choose_either : {X : Type 0} (a b : Bool) (x y : X) → cond a x (cond b x y) ≡ cond (a || b) x y
choose_either true b x y = refl
choose_either false b x y = refl

-- a test counts once at most
pub one_at_most : (b : Bool) → cond b 1 0 ≤ 1
one_at_most true = omega arith
one_at_most false = omega arith

-- ---- tests of numbers and of an order

pub same_false : (a b : ℕ) → a < b → (a == b) ≡ false
same_false a b below = grind (arith, nat_tests)

pub same_false_above : (a b : ℕ) → b < a → (a == b) ≡ false
same_false_above a b above = grind (arith, nat_tests)

pub less_is : (answer : Ordering) → is_lt answer ≡ true → answer ≡ Less
less_is Less h = refl
less_is Equal h = absurd (cc)
less_is Greater h = absurd (cc)
