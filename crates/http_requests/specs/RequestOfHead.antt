-- What a head and the bytes behind it ask: first the key, then the route, the method, the size of
-- the body, and what the body says.
use Rattle.std.specs.Prelude.{ℕ, Bool, false, List, length, take, nat_le, Option, Some, None, is_some, Result, Ok, Err, ok_or, codes, if◌then◌else◌}
use Rattle.vocabulary.specs.ResultSteps.{◌>>=◌}
use Rattle.vocabulary.specs.Names.{key_of}
use Rattle.vocabulary.specs.declared.refusal.Refusal.{Refusal}
use Rattle.vocabulary.specs.declared.refusal.Refusal.TheVariants as refusal
use Rattle.desk_words.specs.declared.request.Request.{Request}
use Rattle.json_requests.specs.declared.route.Route.{Route}
use Rattle.json_requests.specs.RefusalResults.{or_unreadable}
use Rattle.vocabulary.specs.OptionSteps as options
use Rattle.json_requests.specs.Requests.{asked_on_route}
use Rattle.http_heads.specs.Fields.{only_value}
use Rattle.http_heads.specs.Heads.{HeadContent}
use Rattle.http_heads.specs.Length.{body_length}
use Rattle.http_heads.specs.declared.length.BodyLength.{BodyLength}
use Rattle.http_heads.specs.declared.length.BodyLength.TheVariants.{Bytes, TooLarge, Unreadable}
use Rattle.http_routes.specs.Methods.{is_method_of}
use Rattle.http_routes.specs.Targets.{target_route}
use Rattle.http_requests.specs.declared.head_request.Way.{Way}

-- the name of the field that holds the key
abbrev pub key_name : List ℕ
key_name = codes "desk-key"

-- the key: the value of the one field `Desk-Key`, if it has the form of a key
unfoldable pub key_of_head : HeadContent → Option (List ℕ)
key_of_head head = options.◌>>=◌ (only_value key_name head.fields) key_of

-- the route, if it has this method
abbrev pub by_method : List ℕ → Route → Result Route Refusal
by_method method route = if is_method_of method route then Ok route else Err refusal.Method

-- the route that the target names, by its own method
unfoldable pub route_in : HeadContent → Result Route Refusal
route_in head = do
  route ← ok_or (target_route head.target) refusal.Route
  by_method head.method route

-- the size of the body, if it is within its limit
abbrev pub size_of : BodyLength → Result ℕ Refusal
size_of (Bytes size) = Ok size
size_of TooLarge = Err refusal.TooLarge
size_of Unreadable = Err refusal.Unreadable

-- where the request goes, and how many bytes its body has
unfoldable pub way_in : HeadContent → Result Way Refusal
way_in head = do
  route ← route_in head
  size ← size_of (body_length head.fields)
  Ok (record { route = route; size = size })

-- the first bytes of some, if there are so many
abbrev pub front_of : ℕ → List ℕ → Option (List ℕ)
front_of size bytes = if nat_le size (length bytes) then Some (take size bytes) else None

-- there are so many
abbrev pub has_front : ℕ → List ℕ → Bool
has_front size bytes = is_some (front_of size bytes)

-- what is asked on a route by a body of this size; what stands behind the body is not looked at
unfoldable pub request_by : Route → ℕ → List ℕ → Result Request Refusal
request_by route size behind = do
  body ← or_unreadable (front_of size behind)
  or_unreadable (asked_on_route route body)

-- what a head asks, with the bytes behind it
unfoldable pub request_in : HeadContent → List ℕ → Result Request Refusal
request_in head behind = do
  way ← way_in head
  request_by way.route way.size behind

-- the request has a way, and its body is whole
abbrev pub is_whole_on : Result Way Refusal → List ℕ → Bool
is_whole_on (Ok way) behind = has_front way.size behind
is_whole_on (Err why) behind = false

-- the body of a head is whole, by the bytes behind the head
abbrev pub is_whole : HeadContent → List ℕ → Bool
is_whole head behind = is_whole_on (way_in head) behind

-- so many bytes of a body are read: none where the route, the method or the size is refused
abbrev pub size_on : Result Way Refusal → ℕ
size_on (Ok way) = way.size
size_on (Err why) = 0

-- and none where there is no key
abbrev pub size_with : Option (List ℕ) → Result Way Refusal → ℕ
size_with None way = 0
size_with (Some key) way = size_on way

-- the size of the body that is read behind a head
abbrev pub size_read : HeadContent → ℕ
size_read head = size_with (key_of_head head) (way_in head)
