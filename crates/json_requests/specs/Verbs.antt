-- Verbs, which name requests: the word for each, its fields, and what they say.
use Rattle.std.specs.Prelude.{ℕ, List, [], ◌∷◌, Option, Some, codes, bytes_eq, find}
use Rattle.desk_words.specs.declared.request.OfficeRequest.{OfficeRequest}
use Rattle.desk_words.specs.declared.request.OfficeRequest.TheVariants.{OpenMeeting}
use Rattle.desk_words.specs.declared.request.PartyRequest.{PartyRequest}
use Rattle.desk_words.specs.declared.request.PartyRequest.TheVariants.{Attend, Notice, Mine}
use Rattle.json_requests.specs.declared.verb.Verb.{Verb}
use Rattle.json_requests.specs.declared.verb.Verb.TheVariants.{Call, Closed, Keys, Office, Party}
use Rattle.json_requests.specs.declared.verb.OfficeVerb.{OfficeVerb}
use Rattle.json_requests.specs.declared.verb.OfficeVerb.TheVariants as office
use Rattle.json_requests.specs.declared.verb.PartyVerb.{PartyVerb}
use Rattle.json_requests.specs.declared.verb.PartyVerb.TheVariants as party
use Rattle.json_requests.specs.AppointmentBodies.{appoint_body, appoint_fields, end_fields, end_in}
use Rattle.json_requests.specs.PollBodies.{order_fields, order_in, poll_fields, start_in, close_in, declare_in, demand_body, cast_body, cast_fields, instructed_in}
use Rattle.json_requests.specs.PresenceBodies.{adjourn_fields, adjourn_in, presence_body, presence_fields, authorise_fields, authorise_in}
use Rattle.json_requests.specs.RegisterBodies.{load_fields, load_in}
use Rattle.json_requests.specs.JsonFields.{Fields}

-- the word for what the office asks in a meeting, and what fields ask by it
abbrev pub office_way : OfficeVerb → List ℕ × (Fields → Option OfficeRequest)
office_way office.Presence = (codes "presence", presence_body)
office_way office.Register = (codes "register", load_in)
office_way office.Open = (codes "open", λ fields. Some OpenMeeting)
office_way office.Adjourn = (codes "adjourn", adjourn_in)
office_way office.Order = (codes "order", order_in)
office_way office.Start = (codes "start", start_in)
office_way office.Close = (codes "close", close_in)
office_way office.Declare = (codes "declare", declare_in)

-- the word for what a party asks in a meeting, and what fields ask by it; `notice` and `mine` ask
-- the same by all
abbrev pub party_way : PartyVerb → List ℕ × (Fields → Option PartyRequest)
party_way party.Notice = (codes "notice", λ fields. Some Notice)
party_way party.Mine = (codes "mine", λ fields. Some Mine)
party_way party.Appoint = (codes "appoint", appoint_body)
party_way party.End = (codes "end", end_in)
party_way party.Authorise = (codes "authorise", authorise_in)
party_way party.Attend = (codes "attend", λ fields. Some Attend)
party_way party.Demand = (codes "demand", demand_body)
party_way party.Cast = (codes "cast", cast_body)
party_way party.Instructed = (codes "instructed", instructed_in)

-- the fields of what the office asks in a meeting
abbrev pub office_fields : OfficeVerb → List (List ℕ)
office_fields office.Presence = presence_fields
office_fields office.Register = load_fields
office_fields office.Open = []
office_fields office.Adjourn = adjourn_fields
office_fields office.Order = order_fields
office_fields office.Start = poll_fields
office_fields office.Close = poll_fields
office_fields office.Declare = poll_fields

-- the fields of what a party asks in a meeting
abbrev pub party_fields : PartyVerb → List (List ℕ)
party_fields party.Notice = []
party_fields party.Mine = []
party_fields party.Appoint = appoint_fields
party_fields party.End = end_fields
party_fields party.Authorise = authorise_fields
party_fields party.Attend = []
party_fields party.Demand = poll_fields
party_fields party.Cast = cast_fields
party_fields party.Instructed = poll_fields

-- the word for a verb
abbrev pub verb_word : Verb → List ℕ
verb_word Call = codes "call"
verb_word Closed = codes "closed"
verb_word Keys = codes "keys"
verb_word (Office verb) = (office_way verb).0
verb_word (Party verb) = (party_way verb).0

-- every verb
abbrev pub verbs : List Verb
verbs =
    Call ∷ Closed ∷ Keys
    ∷ Office office.Presence ∷ Office office.Register ∷ Office office.Open ∷ Office office.Adjourn
    ∷ Office office.Order ∷ Office office.Start ∷ Office office.Close ∷ Office office.Declare
    ∷ Party party.Notice ∷ Party party.Mine ∷ Party party.Appoint ∷ Party party.End
    ∷ Party party.Authorise ∷ Party party.Attend ∷ Party party.Demand ∷ Party party.Cast
    ∷ Party party.Instructed ∷ []

-- the one whose word it is
abbrev pub verb_of : List ℕ → Option Verb
verb_of word = find (λ verb. bytes_eq word (verb_word verb)) verbs
