-- Routes: what a meeting and a verb name, before any body is read.
use Rattle.std.specs.Prelude.{ℕ, List, Option, Some, None, option_map, codes, bytes_eq, if◌then◌else◌}
use Rattle.vocabulary.specs.Names.{meeting_of}
use Rattle.json_requests.specs.declared.route.Route.{Route}
use Rattle.json_requests.specs.declared.route.Route.TheVariants as route
use Rattle.json_requests.specs.declared.verb.Verb.{Verb}
use Rattle.json_requests.specs.declared.verb.Verb.TheVariants.{Call, Closed, Keys, Office, Party}
use Rattle.vocabulary.specs.OptionSteps.{◌>>=◌}
use Rattle.json_requests.specs.Verbs.{verb_of}

-- `-` stands where no meeting is named
abbrev pub no_meeting : List ℕ → Option (Unit {0})
no_meeting meeting = if bytes_eq meeting (codes "-") then Some tt else None

-- the route of a verb: to the meeting that is named, or to the whole desk, where none is
abbrev pub route_by : Verb → List ℕ → Option Route
route_by Call meeting = option_map (λ m. route.Call m) (meeting_of meeting)
route_by Closed meeting = option_map (λ nothing. route.Closed) (no_meeting meeting)
route_by Keys meeting = option_map (λ nothing. route.Keys) (no_meeting meeting)
route_by (Office verb) meeting = option_map (λ m. route.Office m verb) (meeting_of meeting)
route_by (Party verb) meeting = option_map (λ m. route.Party m verb) (meeting_of meeting)

-- the route that a meeting and a verb name, if the verb is listed
unfoldable pub route_of : List ℕ → List ℕ → Option Route
route_of meeting verb = do
  listed ← verb_of verb
  route_by listed meeting
