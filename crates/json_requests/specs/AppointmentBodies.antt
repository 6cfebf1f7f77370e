-- Appointments of proxies, and their endings.
use Rattle.std.specs.Prelude.{nat_le, ℕ, List, [], ◌∷◌, Option, None, Some, codes}
use Rattle.serde_json.specs.Data.{Data}
use Rattle.serde_json.specs.Events.{items_len}
use Rattle.vocabulary.specs.declared.kinds.Instr.{Instr}
use Rattle.vocabulary.specs.Kinds.{instruction_of}
use Rattle.vocabulary.specs.Names.{party_of}
use Rattle.desk_words.specs.declared.limits.TheConstants.{MOST_RESOLUTIONS}
use Rattle.desk_words.specs.declared.request.PartyRequest.{PartyRequest}
use Rattle.desk_words.specs.declared.request.PartyRequest.TheVariants.{Appoint, End}
use Rattle.vocabulary.specs.OptionSteps.{guard, ◌>>=◌}
use Rattle.json_requests.specs.JsonFields.{Fields, items_in, number_at, parsed_at, all_items}

-- a value is the word for an instruction
unfoldable pub instruction_at : Data → Option Instr
instruction_at d = parsed_at instruction_of (Some d)

-- the instructions at a place: 0 to `MOST_RESOLUTIONS` words
unfoldable pub instructions_in : Option Data → Option (List Instr)
instructions_in place = do
  items ← items_in place
  few ← guard (nat_le (items_len items) MOST_RESOLUTIONS)
  all_items instruction_at items

-- the fields of an appointment
abbrev pub appoint_fields : List (List ℕ)
appoint_fields = codes "proxy" ∷ codes "from" ∷ codes "to" ∷ codes "instructions" ∷ []

-- the appointment that four fields give (section 324), each of its form
unfoldable pub appoint_body : Fields → Option PartyRequest
appoint_body (proxy_at ∷ from_at ∷ to_at ∷ instructions_at ∷ []) = do
  proxy ← parsed_at party_of proxy_at
  from ← number_at from_at
  to ← number_at to_at
  instructions ← instructions_in instructions_at
  Some (Appoint (record { proxy = proxy; from = from; to = to; instructions = instructions }))
appoint_body other = None

-- the fields of an ending
abbrev pub end_fields : List (List ℕ)
end_fields = codes "number" ∷ []

-- the ending that one field gives (section 330): of an appointment by its number
unfoldable pub end_in : Fields → Option PartyRequest
end_in (place ∷ []) = do
  number ← number_at place
  Some (End number)
end_in other = None
