-- What a clock gave, one moment after another.
use Rattle.std.specs.Prelude.{◌≡◌, ℕ, List, [], ◌∷◌}

-- a clock gave these moments and no other, each as it was then
abbrev pub GivesMoments : {C : Type 0} → (C → ℕ → C → Type 0) → C → List ℕ → C → Type 0
GivesMoments gives old [] new = new ≡ old
GivesMoments {C} gives old (moment ∷ later) new =
    (between : C) × gives old moment between × GivesMoments gives between later new
