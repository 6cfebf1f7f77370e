-- The loading of closed days.
use Rattle.std.specs.Prelude.{ℕ, List, [], ◌∷◌, Option, None, Some, codes}
use Rattle.serde_json.specs.Data.{Data}
use Rattle.calendar.specs.DateTexts.{day_of}
use Rattle.desk_words.specs.SortedLists.{day_list_of}
use Rattle.desk_words.specs.ViewTypes.{Day}
use Rattle.vocabulary.specs.OptionSteps.{◌>>=◌}
use Rattle.json_requests.specs.JsonFields.{Fields, items_in, parsed_at, all_items}

-- a value is a day
unfoldable pub day_at : Data → Option Day
day_at d = parsed_at day_of (Some d)

-- the list that the days at a place make
unfoldable pub days_body : Option Data → Option (List Day)
days_body place = do
  items ← items_in place
  days ← all_items day_at items
  day_list_of days

-- the fields of the loading of closed days
abbrev pub closed_fields : List (List ℕ)
closed_fields = codes "days" ∷ []

-- the closed days that one field loads (section 1173)
unfoldable pub closed_body : Fields → Option (List Day)
closed_body (days_at ∷ []) = days_body days_at
closed_body other = None
