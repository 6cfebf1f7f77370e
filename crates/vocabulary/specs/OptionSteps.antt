-- One step after another, each of which may give nothing.
use Rattle.std.specs.Prelude.{Bool, true, false, Option, Some, None}

-- one step after another, up to the first that gives nothing
infixl 10 ◌>>=◌
abbrev pub ◌>>=◌ : {A B : Type 0} → Option A → (A → Option B) → Option B
(Some x) >>= next = next x
None >>= next = None

-- nothing where the test fails
abbrev pub guard : Bool → Option (Unit {0})
guard true = Some tt
guard false = None
