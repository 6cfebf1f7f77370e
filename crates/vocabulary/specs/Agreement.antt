-- What was returned agrees with what it should be.
use Rattle.std.specs.Prelude.{◌≡◌, Result, Ok, Err}

-- a value, as contracts see it, is the answer; what an error says of the answer is given with it
abbrev pub Agrees : {X Y E A : Type 0} → (Y → A) → (E → A → Type 0) → (X → Y) → Result X E → A
    → Type 0
Agrees as_answer err_agrees seen (Ok x) answer = answer ≡ as_answer (seen x)
Agrees as_answer err_agrees seen (Err error) answer = err_agrees error answer
