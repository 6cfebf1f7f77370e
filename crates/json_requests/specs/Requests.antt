-- Requests, as a meeting, a verb and a body ask them.
use Rattle.std.specs.Prelude.{ℕ, Bool, true, false, List, [], Option, option_map, Result, ok_or, if◌then◌else◌}
use Rattle.vocabulary.specs.ResultSteps.{◌>>=◌}
use Rattle.vocabulary.specs.declared.refusal.Refusal.{Refusal}
use Rattle.vocabulary.specs.declared.refusal.Refusal.TheVariants as refusal
use Rattle.desk_words.specs.declared.request.DeskRequest.TheVariants as desk
use Rattle.desk_words.specs.declared.request.Request.{Request}
use Rattle.desk_words.specs.declared.request.Request.TheVariants as request
use Rattle.json_requests.specs.declared.route.Route.{Route}
use Rattle.json_requests.specs.declared.route.Route.TheVariants as route
use Rattle.json_requests.specs.declared.verb.PartyVerb.TheVariants as party
use Rattle.json_requests.specs.RefusalResults.{or_unreadable}
use Rattle.json_requests.specs.Bodies.{read_by}
use Rattle.json_requests.specs.CallBodies.{call_body, call_fields}
use Rattle.json_requests.specs.DayBodies.{closed_body, closed_fields}
use Rattle.json_requests.specs.KeyBodies.{keys_body, keys_fields}
use Rattle.json_requests.specs.JsonFields.{Fields}
use Rattle.json_requests.specs.Routes.{route_of}
use Rattle.json_requests.specs.Verbs.{office_fields, office_way, party_fields, party_way}

-- the fields that a body has on a route
abbrev pub route_fields : Route → List (List ℕ)
route_fields (route.Call meeting) = call_fields
route_fields route.Closed = closed_fields
route_fields route.Keys = keys_fields
route_fields (route.Office meeting verb) = office_fields verb
route_fields (route.Party meeting verb) = party_fields verb

-- what is asked on a route, as the fields say it
abbrev pub asked_in : Route → Fields → Option Request
asked_in (route.Call meeting) fields =
    option_map (λ new. request.Desk (desk.CallMeeting new)) (call_body meeting fields)
asked_in route.Closed fields =
    option_map (λ days. request.Desk (desk.ClosedDays days)) (closed_body fields)
asked_in route.Keys fields = option_map (λ rows. request.Desk (desk.Keys rows)) (keys_body fields)
asked_in (route.Office meeting verb) fields =
    option_map (λ what. request.Office meeting what) ((office_way verb).1 fields)
asked_in (route.Party meeting verb) fields =
    option_map (λ what. request.Party meeting what) ((party_way verb).1 fields)

-- for `notice` and `mine` no body is looked at
abbrev pub is_bodiless : Route → Bool
is_bodiless (route.Party meeting party.Notice) = true
is_bodiless (route.Party meeting party.Mine) = true
is_bodiless way = false

-- what is asked on a route, as the body says it where one is looked at
abbrev pub asked_on_route : Route → List ℕ → Option Request
asked_on_route way body =
    if is_bodiless way then asked_in way [] else read_by (route_fields way) (asked_in way) body

-- no route where there is none
abbrev pub routed : {A : Type 0} → Option A → Result A Refusal
routed found = ok_or found refusal.Route

-- what the bytes ask: a route comes first, and only then the body
unfoldable pub request_of : List ℕ → List ℕ → List ℕ → Result Request Refusal
request_of meeting verb body = do
  way ← routed (route_of meeting verb)
  or_unreadable (asked_on_route way body)
