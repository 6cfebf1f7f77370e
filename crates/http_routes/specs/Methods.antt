-- The methods of routes (RFC 9110, section 9).
use Rattle.std.specs.Prelude.{ℕ, Bool, List, codes, bytes_eq}
use Rattle.json_requests.specs.declared.route.Route.{Route}
use Rattle.json_requests.specs.declared.route.Route.TheVariants.{Party}
use Rattle.json_requests.specs.declared.verb.PartyVerb.TheVariants.{Notice, Mine}

-- `GET` for the notice and for a party's own things, and `POST` for all else
abbrev pub method_of : Route → List ℕ
method_of (Party meeting Notice) = codes "GET"
method_of (Party meeting Mine) = codes "GET"
method_of other = codes "POST"

-- whether these bytes are the route's method
abbrev pub is_method_of : List ℕ → Route → Bool
is_method_of method route = bytes_eq method (method_of route)
