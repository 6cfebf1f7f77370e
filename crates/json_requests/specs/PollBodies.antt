-- Polls, and the votes on them.
use Rattle.std.specs.Prelude.{ℕ, List, [], ◌∷◌, Option, None, Some, codes}
use Rattle.calendar.specs.DateTexts.{moment_of}
use Rattle.vocabulary.specs.Kinds.{capacity_of, way_of}
use Rattle.vocabulary.specs.Names.{party_of}
use Rattle.desk_words.specs.ViewTypes.{Number}
use Rattle.desk_words.specs.declared.request.OfficeRequest.{OfficeRequest}
use Rattle.desk_words.specs.declared.request.OfficeRequest.TheVariants.{Order, Start, Close, Declare}
use Rattle.desk_words.specs.declared.request.PartyRequest.{PartyRequest}
use Rattle.desk_words.specs.declared.request.PartyRequest.TheVariants.{Demand, Cast, Instructed}
use Rattle.vocabulary.specs.OptionSteps.{◌>>=◌}
use Rattle.json_requests.specs.JsonFields.{Fields, number_at, flag_at, parsed_at}

-- the fields of the ordering of a poll
abbrev pub order_fields : List (List ℕ)
order_fields = codes "resolution" ∷ codes "take" ∷ codes "chair" ∷ []

-- the poll that three fields order (section 321), each of its form
unfoldable pub order_in : Fields → Option OfficeRequest
order_in (resolution_at ∷ take_at ∷ chair_at ∷ []) = do
  resolution ← number_at resolution_at
  take ← parsed_at moment_of take_at
  chair ← flag_at chair_at
  Some (Order (record { resolution = resolution; take = take; chair = chair }))
order_in other = None

-- the fields of what names a poll
abbrev pub poll_fields : List (List ℕ)
poll_fields = codes "resolution" ∷ []

-- the poll that one field names, by its resolution
unfoldable pub poll_body : Fields → Option Number
poll_body (resolution_at ∷ []) = number_at resolution_at
poll_body other = None

-- the start of that poll
unfoldable pub start_in : Fields → Option OfficeRequest
start_in fields = do
  resolution ← poll_body fields
  Some (Start resolution)

-- the close of the voting on that poll
unfoldable pub close_in : Fields → Option OfficeRequest
close_in fields = do
  resolution ← poll_body fields
  Some (Close resolution)

-- the declaration of that poll
unfoldable pub declare_in : Fields → Option OfficeRequest
declare_in fields = do
  resolution ← poll_body fields
  Some (Declare resolution)

-- a demand of that poll (section 321)
unfoldable pub demand_body : Fields → Option PartyRequest
demand_body fields = do
  resolution ← poll_body fields
  Some (Demand resolution)

-- the fields of a vote
abbrev pub cast_fields : List (List ℕ)
cast_fields =
    codes "resolution" ∷ codes "as" ∷ codes "member" ∷ codes "from" ∷ codes "to" ∷ codes "way" ∷ []

-- the vote that six fields cast (sections 284, 322, 323 and 324), each of its form
unfoldable pub cast_body : Fields → Option PartyRequest
cast_body (resolution_at ∷ capacity_at ∷ member_at ∷ from_at ∷ to_at ∷ way_at ∷ []) = do
  resolution ← number_at resolution_at
  capacity ← parsed_at capacity_of capacity_at
  member ← parsed_at party_of member_at
  from ← number_at from_at
  to ← number_at to_at
  way ← parsed_at way_of way_at
  Some
      (Cast
      (record {
        resolution = resolution;
        capacity = capacity;
        member = member;
        from = from;
        to = to;
        way = way;
      }))
cast_body other = None

-- what is cast as instructed (section 324A)
unfoldable pub instructed_in : Fields → Option PartyRequest
instructed_in fields = do
  resolution ← poll_body fields
  Some (Instructed resolution)
