-- Texts that are written in turn, each with the call to which it replies.
use Rattle.std.specs.Prelude.{◌≡◌, ℕ, Bool, true, false, ◌&&◌, not, List, [], ◌∷◌, map, filter, Option}
use Rattle.std.specs.Option.{option_map_or}
use Rattle.desk_words.specs.ViewTypes.{Party}
use Rattle.desk_words.specs.declared.office.OfficeLists.{OfficeLists}
use Rattle.desk_words.specs.declared.reply.Reply.{Reply}
use Rattle.desk_words.specs.declared.request.Call.{Call}
use Rattle.meeting_core.specs.Step.{run_of}
use Rattle.laws_run.specs.Traces.{with_head, is_by}
use Rattle.laws_run.specs.SecretCalls.{Secret, declares_in, is_the_office}

-- a text that was written, and the call to which it replies; none was made where the text refuses
-- what is no call, or reports a failure
pub record Exchange : Type 0 where
  pub made : Option Call
  pub text : List ℕ

-- the calls that were made
abbrev pub calls_made : List Exchange → List Call
calls_made [] = []
calls_made (e ∷ later) = with_head e.made (calls_made later)

-- it replies to a call that passes a test
abbrev pub answers_a : (Call → Bool) → Exchange → Bool
answers_a test e = option_map_or test e.made false

-- the texts that reply to calls that pass a test
abbrev pub texts_to : (Call → Bool) → List Exchange → List (List ℕ)
texts_to test exchanges = map (λ (e : Exchange). e.text) (filter (answers_a test) exchanges)

-- every call does
abbrev pub every_call : Call → Bool
every_call call = true

-- the party calls
abbrev pub is_call_by : Party → Call → Bool
is_call_by party call = is_by party call.caller

-- the office calls, and asks something else than the declaration of the resolution
abbrev pub is_open_call : Secret → Call → Bool
is_open_call secret call =
    is_the_office call.caller
    && not (declares_in secret.meeting secret.resolution call.request)

-- the office asks for the declaration of the resolution
abbrev pub asks_declaration : Secret → Call → Bool
asks_declaration secret call =
    is_the_office call.caller && declares_in secret.meeting secret.resolution call.request

-- the texts are those of the run of the calls from an office: each is the text of the reply to its
-- call
abbrev pub AreTextsOfRun : (Reply → List ℕ) → OfficeLists → List Exchange → Type 0
AreTextsOfRun text_of office exchanges =
    texts_to every_call exchanges ≡ map text_of (run_of office (calls_made exchanges)).replies
