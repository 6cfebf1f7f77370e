-- What is read of parts.
use Rattle.std.proofs.Common.{◌≡◌, Option, Some, None, refl, ap}
use Rattle.vocabulary.specs.OptionSteps.{◌>>=◌}

-- a reading that gives something is made of two that do
pub bound : {A B : Type 0} (o : Option A) (next : A → Option B) (x : B) → (o >>= next) ≡ Some x → (a : A) × (o ≡ Some a) × (next a ≡ Some x)
bound None next x h = absurd cc
bound (Some a) next x h = (a, refl, h)

-- the same part of two things, where both are all that is read
pub option_ap : {A B : Type 0} {a b : A} (part : A → B) → ◌≡◌ {A = Option A} (Some a) (Some b) → ◌≡◌ {A = Option B} (Some (part a)) (Some (part b))
option_ap {a = a} {b = b} part h = let same : a ≡ b = cc in ap (λ x. Some (part x)) same
