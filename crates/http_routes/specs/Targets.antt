-- Targets of requests, and the routes that they name.
use Rattle.std.specs.Prelude.{ℕ, ◌+◌, ◌==◌, Bool, nat_eq, List, take, drop, position, Option, Some, None, option_map, codes, if◌then◌else◌}
use Rattle.std.specs.List.{starts_with}
use Rattle.json_requests.specs.declared.route.Route.{Route}
use Rattle.json_requests.specs.declared.route.Route.TheVariants.{Closed, Keys, Office}
use Rattle.json_requests.specs.declared.verb.OfficeVerb.TheVariants.{Register}
use Rattle.vocabulary.specs.OptionSteps.{◌>>=◌}
use Rattle.json_requests.specs.Routes.{route_of}

-- what stands behind `/m/`, if the target begins so
abbrev pub behind_root : List ℕ → Option (List ℕ)
behind_root target = if starts_with nat_eq target (codes "/m/") then Some (drop 3 target) else None

-- a slash is the byte 47
abbrev pub is_slash : ℕ → Bool
is_slash byte = byte == 47

-- what stands before the first slash, and what stands behind it
abbrev pub at_first_slash : List ℕ → Option (List ℕ × List ℕ)
at_first_slash bytes =
    option_map (λ place. (take place bytes, drop (place + 1) bytes)) (position is_slash bytes)

-- the route, if it is one over HTTP; registers, closed days and keys are not loaded there
abbrev pub served : Route → Option Route
served Closed = None
served Keys = None
served (Office meeting Register) = None
served other = Some other

-- the route that a target names: `/m/`, a meeting, a slash and a verb, with no escape decoded
unfoldable pub target_route : List ℕ → Option Route
target_route target = do
  rest ← behind_root target
  parts ← at_first_slash rest
  route ← route_of parts.0 parts.1
  served route
