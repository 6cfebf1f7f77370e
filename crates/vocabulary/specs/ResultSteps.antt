-- One step after another, each of which may have a fault.
use Rattle.std.specs.Prelude.{Bool, true, false, Result, Ok, Err}

-- one step after another, up to the first fault
infixl 10 ◌>>=◌
abbrev pub ◌>>=◌ : {A B E : Type 0} → Result A E → (A → Result B E) → Result B E
(Ok x) >>= next = next x
(Err fault) >>= next = Err fault

-- a fault where the test fails
abbrev pub ensure : {E : Type 0} → Bool → E → Result (Unit {0}) E
ensure true fault = Ok tt
ensure false fault = Err fault
