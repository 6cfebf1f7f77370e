-- What is entered into a meeting's lists keeps the limits of an office.
use Rattle.std.proofs.Common.{◌≡◌, ℕ, true, List, refl}
use Rattle.std.specs.Prelude.{Option, Some, None, option_map}
use Rattle.desk_words.specs.declared.change.Change.TheVariants.{InMeeting}
use Rattle.desk_words.specs.declared.change.Entry.{Entry}
use Rattle.desk_words.specs.declared.change.MeetingChange.TheVariants.{Enter}
use Rattle.office_decisions.specs.RequestLimits.{if_any, keeps_limits}

pub entry_in_limits : (meeting : List ℕ) (entry : Option Entry) → if_any keeps_limits (option_map (λ (e : Entry). InMeeting meeting (Enter e)) entry) ≡ true
entry_in_limits meeting None = refl
entry_in_limits meeting (Some e) = refl
