-- What decides a call: when it is refused, and what is answered else.
use Rattle.std.specs.Prelude.{Bool, true, false, not, List, [], ◌∷◌, length, Option, Some, None, option_map, is_some, if◌then◌else◌}
use Rattle.vocabulary.specs.Refusals.{Case, first_refusal}
use Rattle.vocabulary.specs.declared.refusal.Refusal.{Refusal}
use Rattle.vocabulary.specs.declared.refusal.Refusal.TheVariants.{NoMeeting, NoResolution}
use Rattle.desk_words.specs.Office.{is_resolution}
use Rattle.desk_words.specs.ViewTypes.{Number}
use Rattle.desk_words.specs.declared.answer.Answer.{Answer}
use Rattle.desk_words.specs.declared.records.Meeting.{Meeting}
use Rattle.desk_words.specs.declared.reply.Reply.{Reply}
use Rattle.desk_words.specs.declared.reply.Reply.TheVariants as reply

-- the conditions under which a call is refused, in the one order, and what is answered where none
-- of them holds
pub record Ruling (C : Type 0) : Type 0 where
  pub cases : List Case
  pub accepted : Answer C

-- a reply that changes nothing
abbrev pub reply_unchanged : {C : Type 0} → Reply → Answer C
reply_unchanged r = record { reply = r; change = None }

-- a refusal, which changes nothing
abbrev pub refused : {C : Type 0} → Refusal → Answer C
refused r = reply_unchanged (reply.Refused r)

-- a refusal, or else what is accepted
abbrev pub refused_or : {C : Type 0} → Option Refusal → Answer C → Answer C
refused_or (Some r) accepted = refused r
refused_or None accepted = accepted

-- the answer: the first refusal whose condition holds, which is the lowest, or else what is
-- accepted
abbrev pub ruled_answer : {C : Type 0} → Ruling C → Answer C
ruled_answer ruling = refused_or (first_refusal ruling.cases) ruling.accepted

-- a condition holds
abbrev pub refuses : {C : Type 0} → Ruling C → Bool
refuses ruling = is_some (first_refusal ruling.cases)

-- the refusal in a reply
abbrev pub refusal_in : Reply → Option Refusal
refusal_in (reply.Refused r) = Some r
refusal_in accepted = None

-- the answer refuses
abbrev pub is_refused : {C : Type 0} → Answer C → Bool
is_refused answer = is_some (refusal_in answer.reply)

-- nothing refuses it, and nothing is changed
abbrev pub reply_only : {C : Type 0} → Reply → Ruling C
reply_only r = record { cases = []; accepted = reply_unchanged r }

-- a change that is noted: it is made unless it stands already, and nothing is said of which
abbrev pub noted : {C : Type 0} → Bool → C → Answer C
noted stands change = record { reply = reply.Noted; change = if stands then None else Some change }

-- what is loaded: Same where it is what is held, else Loaded
abbrev pub loaded : {C : Type 0} → Bool → C → Answer C
loaded true change = reply_unchanged reply.Same
loaded false change = record { reply = reply.Loaded; change = Some change }

-- one condition more, asked before the others
abbrev pub asked_first : {C : Type 0} → Case → Ruling C → Ruling C
asked_first case ruling = record { cases = case ∷ ruling.cases; accepted = ruling.accepted }

-- where a meeting is found, that there is one, and then what is ruled in it; else that there is
-- none
abbrev pub in_found : {X C : Type 0} → Option X → (X → Ruling C) → Ruling C
in_found None ruling = record {
  cases = record { refusal = NoMeeting; holds = true } ∷ [];
  accepted = refused NoMeeting;
}
in_found (Some x) ruling = asked_first (record { refusal = NoMeeting; holds = false }) (ruling x)

-- no such resolution stands in the notice
abbrev pub no_resolution : Meeting → Number → Case
no_resolution meeting number = record {
  refusal = NoResolution;
  holds = not (is_resolution (length meeting.resolutions) number);
}

-- an answer whose change is made in something larger, as a meeting's in the office
abbrev pub map_change : {C D : Type 0} → (C → D) → Answer C → Answer D
map_change larger answer = record { reply = answer.reply; change = option_map larger answer.change }

-- a ruling whose change is made in something larger
abbrev pub map_ruling_change : {C D : Type 0} → (C → D) → Ruling C → Ruling D
map_ruling_change larger ruling = record {
  cases = ruling.cases;
  accepted = map_change larger ruling.accepted;
}
