-- The meeting of a route.
use Rattle.std.proofs.Common.{◌≡◌, ℕ, List, codes, Bool, true, false, cond, Option, Some, None, refl, ap, sym, ◌∙◌}
use Rattle.std.specs.Prelude.{bytes_eq, option_map}
use Rattle.std.proofs.lemmas.Slice.Eq.{bytes_eq-Decides}
use Rattle.vocabulary.specs.Names.{meeting_of}
use Rattle.json_requests.specs.declared.route.Route.{Route}
use Rattle.json_requests.specs.declared.route.Route.TheVariants as route
use Rattle.json_requests.specs.declared.verb.Verb.{Verb}
use Rattle.json_requests.specs.declared.verb.Verb.TheVariants.{Call, Closed, Keys, Office, Party}
use Rattle.vocabulary.specs.OptionSteps.{◌>>=◌}
use Rattle.json_requests.specs.Routes.{route_by, route_of}
use Rattle.json_requests.specs.Verbs.{verb_of}

-- the meeting of a route
abbrev pub meeting_on : Route → Option (List ℕ)
meeting_on (route.Call meeting) = Some meeting
meeting_on route.Closed = None
meeting_on route.Keys = None
meeting_on (route.Office meeting verb) = Some meeting
meeting_on (route.Party meeting verb) = Some meeting

-- a route to the meeting that was named is of it
to_named : (found : Option (List ℕ)) (to : List ℕ → Route) → ((m : List ℕ) → Some m ≡ meeting_on (to m)) → (way : Route) → option_map to found ≡ Some way → found ≡ meeting_on way
to_named None to same way e = cc
to_named (Some m) to same way e = let is : to m ≡ way = cc in same m ∙ ap meeting_on is

-- no meeting has the name `-`
no_meeting_named : (meeting : List ℕ) → bytes_eq meeting (codes "-") ≡ true → meeting_of meeting ≡ None
no_meeting_named meeting is = ap meeting_of ((bytes_eq-Decides meeting (codes "-")).0 is)

-- a route to the whole desk is of none
to_desk : (meeting : List ℕ) (b : Bool) → bytes_eq meeting (codes "-") ≡ b → (to : Route) → meeting_on to ≡ None
    → (way : Route) → option_map (λ nothing. to) (cond {0} b (Some (tt {0})) None) ≡ Some way → meeting_of meeting ≡ meeting_on way
to_desk meeting true is to none way e = let same : to ≡ way = cc in no_meeting_named meeting is ∙ sym none ∙ ap meeting_on same
to_desk meeting false is to none way e = cc

by_verb : (verb : Verb) (meeting : List ℕ) (way : Route) → route_by verb meeting ≡ Some way → meeting_of meeting ≡ meeting_on way
by_verb Call meeting way e = to_named (meeting_of meeting) (λ m. route.Call m) (λ m. refl) way e
by_verb Closed meeting way e = to_desk meeting (bytes_eq meeting (codes "-")) refl route.Closed refl way e
by_verb Keys meeting way e = to_desk meeting (bytes_eq meeting (codes "-")) refl route.Keys refl way e
by_verb (Office verb) meeting way e = to_named (meeting_of meeting) (λ m. route.Office m verb) (λ m. refl) way e
by_verb (Party verb) meeting way e = to_named (meeting_of meeting) (λ m. route.Party m verb) (λ m. refl) way e

by_listed : (listed : Option Verb) (meeting : List ℕ) (way : Route) → listed >>= (λ verb. route_by verb meeting) ≡ Some way → meeting_of meeting ≡ meeting_on way
by_listed None meeting way e = cc
by_listed (Some verb) meeting way e = by_verb verb meeting way e

-- a route is to the meeting that was named, or to the whole desk, where none was
pub route_keeps : (meeting verb : List ℕ) (way : Route) → route_of meeting verb ≡ Some way → meeting_of meeting ≡ meeting_on way
unfolding route_of
route_keeps meeting verb way e = by_listed (verb_of verb) meeting way e
