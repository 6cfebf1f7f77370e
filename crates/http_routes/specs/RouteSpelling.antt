-- Laws of what is asked and answered over HTTP.
use Rattle.std.specs.Prelude.{◌≡◌, ℕ, ◌≤◌, List, ◌++◌, length, Some, None, option_map, codes}
use Rattle.json_requests.specs.Routes.{route_of}
use Rattle.json_requests.specs.declared.route.Route.{Route}
use Rattle.vocabulary.specs.Refusals.{number_of}
use Rattle.vocabulary.specs.declared.refusal.Refusal.{Refusal}
use Rattle.http_routes.specs.Methods.{method_of}
use Rattle.http_routes.specs.ReplyTexts.{reply_text}
use Rattle.http_routes.specs.Statuses.{refusal_status}
use Rattle.http_routes.specs.Targets.{served, target_route}

-- each refusal from the eighth on is a conflict
abbrev pub RulesConflict : Type 0
RulesConflict = (refusal : Refusal) → 8 ≤ number_of refusal → refusal_status refusal ≡ 409

-- what is accepted with a body of 133 bytes, letter for letter
abbrev pub ResponseIsSpelled : Type 0
ResponseIsSpelled =
    (body : List ℕ)
    → length body ≡ 133
    → reply_text 200 body
    ≡ codes "HTTP/1.1 200 OK\r\nContent-Type: application/json\r\n"
    ++ codes "Content-Length: 133\r\nConnection: close\r\n\r\n" ++ body

-- targets with the method of their route, and such as have no route
pub record TargetsDiffer : Type 0 where
  pub own : option_map method_of (target_route (codes "/m/G1/mine")) ≡ Some (codes "GET")
  pub notice : option_map method_of (target_route (codes "/m/G1/notice")) ≡ Some (codes "GET")
  pub call : option_map method_of (target_route (codes "/m/G1/call")) ≡ Some (codes "POST")
  pub cast : option_map method_of (target_route (codes "/m/G1/cast")) ≡ Some (codes "POST")
  pub query : target_route (codes "/m/G1/mine?all") ≡ None
  pub escape : target_route (codes "/m/G1/m%69ne") ≡ None
  pub lower : target_route (codes "/m/g1/mine") ≡ None
  pub further : target_route (codes "/m/G1/mine/") ≡ None
  pub doubled : target_route (codes "/m/G1//mine") ≡ None
  pub no_verb : target_route (codes "/m/G1/") ≡ None
  pub no_meeting : target_route (codes "/m//mine") ≡ None
  pub whole_url : target_route (codes "http://desk/m/G1/mine") ≡ None
  pub register : target_route (codes "/m/G1/register") ≡ None
  pub closed : target_route (codes "/m/-/closed") ≡ None
  pub keys : target_route (codes "/m/-/keys") ≡ None

-- `/m/`, a meeting, a slash and a verb
abbrev pub target_of : List ℕ → List ℕ → List ℕ
target_of meeting verb = codes "/m/" ++ (meeting ++ (codes "/" ++ verb))

-- a target has the route of the meeting and the verb that it is spelled with, if that is served,
-- and no other target has one
pub record TargetsAreSpelled : Type 0 where
  pub named : (meeting verb : List ℕ) (way : Route)
      → route_of meeting verb ≡ Some way
      → served way ≡ Some way
      → target_route (target_of meeting verb) ≡ Some way
  pub no_other : (target : List ℕ) (way : Route)
      → target_route target ≡ Some way
      → (meeting : List ℕ) × (verb : List ℕ) × (target ≡ target_of meeting verb)
      × (route_of meeting verb ≡ Some way)
      × (served way ≡ Some way)
