-- What reading a body gives: a thing, or nothing where the body is unreadable.
use Rattle.std.specs.Prelude.{◌≡◌, Option, Some, None, Result}
use Rattle.vocabulary.specs.Agreement.{Agrees}
use Rattle.vocabulary.specs.declared.refusal.Refusal.TheVariants.{Unreadable as NotRead}
use Rattle.json_requests.specs.declared.ask.Ask.{Ask}
use Rattle.json_requests.specs.declared.ask.Ask.TheVariants as ask
use Rattle.json_requests.specs.declared.ask.BodyError.{BodyError}
use Rattle.json_requests.specs.declared.ask.BodyError.TheVariants.{Unreadable, Memory}

-- nothing was read; where memory ran out, nothing is said
abbrev pub BodyErrAgrees : {Y : Type 0} → BodyError → Option Y → Type 0
BodyErrAgrees Unreadable read = read ≡ None
BodyErrAgrees Memory read = Unit {0}

-- what was returned, as contracts see it, is what was read, unless memory ran out
abbrev pub BodyAgrees : {X Y : Type 0} → (X → Y) → Result X BodyError → Option Y → Type 0
BodyAgrees seen result read = Agrees Some BodyErrAgrees seen result read

-- what is not read is refused as unreadable
abbrev pub ask_of : BodyError → Ask
ask_of Unreadable = ask.Refused NotRead
ask_of Memory = ask.Memory
