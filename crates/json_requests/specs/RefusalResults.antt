-- What asking gives: a thing, or why it is refused.
use Rattle.std.specs.Prelude.{◌≡◌, Option, Result, Ok, Err, ok_or}
use Rattle.vocabulary.specs.Agreement.{Agrees}
use Rattle.vocabulary.specs.declared.refusal.Refusal.{Refusal}
use Rattle.vocabulary.specs.declared.refusal.Refusal.TheVariants.{Unreadable}
use Rattle.json_requests.specs.declared.ask.Ask.{Ask}
use Rattle.json_requests.specs.declared.ask.Ask.TheVariants.{Refused, Memory}

-- the answer is that refusal; where memory ran out, nothing is said
abbrev pub AskErrAgrees : {Y : Type 0} → Ask → Result Y Refusal → Type 0
AskErrAgrees (Refused refusal) answer = answer ≡ Err refusal
AskErrAgrees Memory answer = Unit {0}

-- what was returned, as contracts see it, is the answer, unless memory ran out
abbrev pub AskAgrees : {X Y : Type 0} → (X → Y) → Result X Ask → Result Y Refusal → Type 0
AskAgrees seen asked answer = Agrees Ok AskErrAgrees seen asked answer

-- unreadable where there is none
abbrev pub or_unreadable : {A : Type 0} → Option A → Result A Refusal
or_unreadable found = ok_or found Unreadable
