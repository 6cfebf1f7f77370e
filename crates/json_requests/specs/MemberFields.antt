-- What stands at some names in an object, of which the tokens are read one after another.
use Rattle.std.specs.Prelude.{ℕ, Bool, not, true, ◌&&◌, List, [], ◌∷◌, map, length, Option, Some, None, option_and_then, if◌then◌else◌}
use Rattle.std.specs.Borrow.{Bor}
use Rattle.json.specs.Token.{Token}
use Rattle.json.specs.Json as json
use Rattle.serde_json.specs.Data.{no_members}
use Rattle.serde_json.specs.Read.{converted}
use Rattle.json_requests.specs.BodyValues.{fits, members_data, members_fit}
use Rattle.json_requests.specs.JsonFields.{Fields, fields_among, is_asked}

-- names, as their texts
abbrev pub texts : List (Bor (List ℕ)) → List (List ℕ)
texts names = map (λ (name : Bor (List ℕ)). name.now) names

-- no name stands twice
abbrev pub all_differ : List (List ℕ) → Bool
all_differ [] = true
all_differ (name ∷ names) = not (is_asked names name) && all_differ names

-- how deep a field may nest, inside the object that a body is
abbrev pub nested : ℕ
nested = 126

-- one value, with no number that is too large for a float
abbrev pub fitting : Option (json.Json × List Token) → Option (json.Json × List Token)
fitting read = option_and_then (λ p. if fits p.0 then Some p else None) read

-- what the members of a tree say at the names
abbrev pub members_say : List (List ℕ) → json.Members → Option Fields
members_say names ms =
    if members_fit ms then fields_among names (members_data ms no_members) else None

-- what the members that tokens begin with say, and the tokens behind them
abbrev pub fields_read : List (List ℕ) → List Token → Option (Fields × List Token)
fields_read names ts =
    converted (members_say names) (json.members (json.value nested) (length ts) ts)

-- the tokens behind the brace that opens an object, where one stands first
abbrev pub after_begin_object : List Token → Option (List Token)
after_begin_object [] = None
after_begin_object (Token.begin_object ∷ ts) = Some ts
after_begin_object (t ∷ ts) = None

-- what the object that tokens begin with says, and the tokens behind it
abbrev pub object_read : List (List ℕ) → List Token → Option (Fields × List Token)
object_read names ts = option_and_then (fields_read names) (after_begin_object ts)
