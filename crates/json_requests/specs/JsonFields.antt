-- What stands at a place in a JSON value: at a name in an object, or at an index in an array.
use Rattle.std.specs.Prelude.{ℕ, Bool, true, false, ◌==◌, ◌&&◌, List, [], ◌∷◌, map, Option, Some, None, option_map, option_and_then, bytes_eq, if◌then◌else◌}
use Rattle.std.specs.Borrow.{Bor}
use Rattle.std.specs.List.{list_any}
use Rattle.std.specs.Option.{option_map_or}
use Rattle.std.specs.declared.alloc.Global.{Global}
use Rattle.json.specs.declared.value.Value.{Value}
use Rattle.serde_json.specs.Data.{Data, Items, no_items, item, Members, no_members, member}
use Rattle.serde_json.specs.Find.{as_number, as_u64, as_bool, as_str, as_object, as_array, get_member}
use Rattle.serde_json.specs.Events.{items_len}
use Rattle.vocabulary.specs.OptionSteps.{◌>>=◌}
use Rattle.json_requests.specs.BodyValues.{view}

-- the value at a place, if there is one
abbrev pub json_at : Option (Bor (Value Global)) → Option Data
json_at place = option_map (λ (value : Bor (Value Global)). view value.now) place

-- what stands at each of the names that are asked for, if anything does
abbrev pub Fields : Type 0
Fields = List (Option Data)

-- a name is asked for
abbrev pub is_asked : List (List ℕ) → List ℕ → Bool
is_asked names key = list_any (λ name. bytes_eq name key) names

-- no member has a name that is not asked for
abbrev pub all_asked : List (List ℕ) → Members → Bool
all_asked names no_members = true
all_asked names (member key d ms) = is_asked names key && all_asked names ms

-- what stands at each of the names among members, which have no other name
abbrev pub fields_among : List (List ℕ) → Members → Option Fields
fields_among names ms =
    if all_asked names ms then Some (map (λ name. get_member name ms) names) else None

-- what stands at each of the names in an object, which has no other field
unfoldable pub fields_in : List (List ℕ) → Data → Option Fields
fields_in names d = as_object d >>= fields_among names

-- values that may be missing, as fields
abbrev pub fields_view : List (Option (Value Global)) → Fields
fields_view vs = map (option_map view) vs

-- whether a value is an array of so many items
abbrev pub has_items : ℕ → Data → Bool
has_items count d = option_map_or (λ items. items_len items == count) (as_array d) false

-- the string at a place
abbrev pub string_in : Option Data → Option (List ℕ)
string_in place = option_and_then as_str place

-- the number at a place, which is whole, with no sign, fraction or exponent, and below 2^64
abbrev pub number_at : Option Data → Option ℕ
number_at place = option_and_then as_u64 (option_and_then as_number place)

-- true or false, whichever stands at a place
abbrev pub flag_at : Option Data → Option Bool
flag_at place = option_and_then as_bool place

-- the items of the array at a place
abbrev pub items_in : Option Data → Option Items
items_in place = option_and_then as_array place

-- what the string at a place spells
unfoldable pub parsed_at : {A : Type 0} → (List ℕ → Option A) → Option Data → Option A
parsed_at reading place = string_in place >>= reading

-- what each of the items is
abbrev pub all_items : {A : Type 0} → (Data → Option A) → Items → Option (List A)
all_items reading no_items = Some []
all_items reading (item d ds) = do
  first ← reading d
  rest ← all_items reading ds
  Some (first ∷ rest)
