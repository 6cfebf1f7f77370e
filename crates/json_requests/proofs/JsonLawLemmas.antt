-- The laws of requests.
use Rattle.std.proofs.Common.{◌≡◌, ℕ, Bool, true, false, cond, List, [], Option, Some, None, Ok, Err, refl, ap, ◌∙◌, ◌⊎◌, inl, inr}
use Rattle.std.specs.Prelude.{option_map}
use Rattle.vocabulary.specs.ResultSteps.{◌>>=◌}
use Rattle.vocabulary.specs.declared.refusal.Refusal.{Refusal}
use Rattle.vocabulary.specs.declared.refusal.Refusal.TheVariants as refusal
use Rattle.vocabulary.specs.Names.{meeting_of}
use Rattle.desk_words.specs.declared.request.DeskRequest.TheVariants as desk
use Rattle.desk_words.specs.declared.request.Request.{Request}
use Rattle.desk_words.specs.declared.request.Request.TheVariants as request
use Rattle.json_requests.specs.declared.route.Route.{Route}
use Rattle.json_requests.specs.declared.route.Route.TheVariants as route
use Rattle.json_requests.specs.RefusalResults.{or_unreadable}
use Rattle.json_requests.specs.Bodies.{body_of, fields_from, read_by}
use Rattle.json_requests.specs.CallBodies.{call_body}
use Rattle.json_requests.specs.DayBodies.{closed_body}
use Rattle.json_requests.specs.KeyBodies.{keys_body}
use Rattle.json_requests.specs.JsonFields.{Fields}
use Rattle.json_requests.specs.RouteLaws.{meeting_asked}
use Rattle.json_requests.specs.Requests.{asked_in, asked_on_route, is_bodiless, request_of, route_fields, routed}
use Rattle.json_requests.specs.Routes.{route_of}
use Rattle.json_requests.specs.Verbs.{office_way, party_way}
use Rattle.json_requests.proofs.CallLemmas.{Keeps, call_keeps, keeps_next}
use Rattle.json_requests.proofs.RouteLemmas.{meeting_on, route_keeps}

-- ---- the route comes before the body

unreadable : (read : Option Request) (why : Refusal) → or_unreadable read ≡ Err why → why ≡ refusal.Unreadable
unreadable None why e = cc
unreadable (Some request) why e = cc

two : (found : Option Route) (body : List ℕ) (why : Refusal) → routed found >>= (λ way. or_unreadable (asked_on_route way body)) ≡ Err why → (why ≡ refusal.Route) ⊎ (why ≡ refusal.Unreadable)
two None body why e = let same : why ≡ refusal.Route = cc in inl same
two (Some way) body why e = inr (unreadable (asked_on_route way body) why e)

pub refusals_are_two_lem : (meeting verb body : List ℕ) (why : Refusal) → request_of meeting verb body ≡ Err why → (why ≡ refusal.Route) ⊎ (why ≡ refusal.Unreadable)
unfolding request_of
refusals_are_two_lem meeting verb body why e = two (route_of meeting verb) body why e

first : (found : Option Route) (body other : List ℕ)
    → routed found >>= (λ way. or_unreadable (asked_on_route way body)) ≡ Err refusal.Route
    → routed found >>= (λ way. or_unreadable (asked_on_route way other)) ≡ Err refusal.Route
first None body other e = refl
first (Some way) body other e = let same : refusal.Route ≡ refusal.Unreadable = unreadable (asked_on_route way body) refusal.Route e in cc

pub route_comes_first_lem : (meeting verb body other : List ℕ) → request_of meeting verb body ≡ Err refusal.Route → request_of meeting verb other ≡ Err refusal.Route
unfolding request_of
route_comes_first_lem meeting verb body other e = first (route_of meeting verb) body other e

-- ---- the meeting is kept

-- what is read on a route is of its meeting
of_made : {A : Type 0} (meeting : Option (List ℕ)) (made : A → Request) (read : Option A) → ((x : A) → read ≡ Some x → meeting ≡ meeting_asked (made x))
    → (wanted : Request) → option_map made read ≡ Some wanted → meeting ≡ meeting_asked wanted
of_made meeting made None same wanted e = cc
of_made meeting made (Some x) same wanted e = let is : made x ≡ wanted = cc in same x refl ∙ ap meeting_asked is

of_value : (way : Route) (fields : Fields) (wanted : Request) → asked_in way fields ≡ Some wanted → meeting_on way ≡ meeting_asked wanted
of_value (route.Call m) fields wanted e = of_made (Some m) (λ new. request.Desk (desk.CallMeeting new)) (call_body m fields) (call_keeps m fields).some wanted e
of_value route.Closed fields wanted e = of_made None (λ days. request.Desk (desk.ClosedDays days)) (closed_body fields) (λ days is. refl) wanted e
of_value route.Keys fields wanted e = of_made None (λ rows. request.Desk (desk.Keys rows)) (keys_body fields) (λ rows is. refl) wanted e
of_value (route.Office m verb) fields wanted e = of_made (Some m) (λ what. request.Office m what) ((office_way verb).1 fields) (λ what is. refl) wanted e
of_value (route.Party m verb) fields wanted e = of_made (Some m) (λ what. request.Party m what) ((party_way verb).1 fields) (λ what is. refl) wanted e

of_body : (way : Route) (body : List ℕ) → Keeps (λ wanted. meeting_on way ≡ meeting_asked wanted) (read_by (route_fields way) (asked_in way) body)
unfolding read_by
of_body way body = keeps_next (λ wanted. meeting_on way ≡ meeting_asked wanted) (fields_from (route_fields way) (body_of body)) (asked_in way) (λ fields. record { some = of_value way fields })

of_either : (way : Route) (body : List ℕ) (wanted : Request) (bodiless : Bool) → cond bodiless (asked_in way []) (read_by (route_fields way) (asked_in way) body) ≡ Some wanted → meeting_on way ≡ meeting_asked wanted
of_either way body wanted true e = of_value way [] wanted e
of_either way body wanted false e = (of_body way body).some wanted e

of_route : (way : Route) (body : List ℕ) (wanted : Request) → asked_on_route way body ≡ Some wanted → meeting_on way ≡ meeting_asked wanted
of_route way body wanted e = of_either way body wanted (is_bodiless way) e

of_readable : (read : Option Request) (wanted : Request) → or_unreadable read ≡ Ok wanted → read ≡ Some wanted
of_readable None wanted e = cc
of_readable (Some made) wanted e = cc

preserved : (meeting : List ℕ) (found : Option Route) → ((way : Route) → found ≡ Some way → meeting_of meeting ≡ meeting_on way)
    → (body : List ℕ) (wanted : Request) → routed found >>= (λ way. or_unreadable (asked_on_route way body)) ≡ Ok wanted → meeting_of meeting ≡ meeting_asked wanted
preserved meeting None is body wanted e = cc
preserved meeting (Some way) is body wanted e = is way refl ∙ of_route way body wanted (of_readable (asked_on_route way body) wanted e)

pub requests_keep_the_meeting_lem : (meeting verb body : List ℕ) (request : Request) → request_of meeting verb body ≡ Ok request → meeting_of meeting ≡ meeting_asked request
unfolding request_of
requests_keep_the_meeting_lem meeting verb body request e = preserved meeting (route_of meeting verb) (route_keeps meeting verb) body request e
