-- The adjournment of a meeting, presences, and the persons who are to represent parties.
use Rattle.std.specs.Prelude.{ℕ, List, [], ◌∷◌, Option, None, Some, codes}
use Rattle.calendar.specs.DateTexts.{moment_of}
use Rattle.vocabulary.specs.Names.{party_of}
use Rattle.desk_words.specs.declared.request.OfficeRequest.{OfficeRequest}
use Rattle.desk_words.specs.declared.request.OfficeRequest.TheVariants.{Adjourn, Presence}
use Rattle.desk_words.specs.declared.request.PartyRequest.{PartyRequest}
use Rattle.desk_words.specs.declared.request.PartyRequest.TheVariants.{Authorise}
use Rattle.vocabulary.specs.OptionSteps.{◌>>=◌}
use Rattle.json_requests.specs.JsonFields.{Fields, parsed_at}

-- the fields of an adjournment
abbrev pub adjourn_fields : List (List ℕ)
adjourn_fields = codes "appointed" ∷ []

-- the adjournment of the meeting to a session at an appointed moment (section 330), its one field
unfoldable pub adjourn_in : Fields → Option OfficeRequest
adjourn_in (appointed_at ∷ []) = do
  appointed ← parsed_at moment_of appointed_at
  Some (Adjourn appointed)
adjourn_in other = None

-- the fields of a presence
abbrev pub presence_fields : List (List ℕ)
presence_fields = codes "party" ∷ []

-- the presence that one field notes (section 318): of a party
unfoldable pub presence_body : Fields → Option OfficeRequest
presence_body (party_at ∷ []) = do
  party ← parsed_at party_of party_at
  Some (Presence party)
presence_body other = None

-- the fields of an authority
abbrev pub authorise_fields : List (List ℕ)
authorise_fields = codes "person" ∷ []

-- the authority that one field gives (section 323): to a person
unfoldable pub authorise_in : Fields → Option PartyRequest
authorise_in (person_at ∷ []) = do
  person ← parsed_at party_of person_at
  Some (Authorise person)
authorise_in other = None
