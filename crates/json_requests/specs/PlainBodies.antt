-- Bodies in a plain form: an object with no space, of strings with no escape and of numbers.
use Rattle.std.specs.Prelude.{◌≡◌, ℕ, Bool, true, false, not, nat_le, nat_lt, ◌==◌, ◌&&◌, List, [], ◌∷◌, ◌++◌, ◌<◌, length, map, fold, Option, Some, slice_set, if◌then◌else◌}
use Rattle.std.specs.Borrow.{Bor}
use Rattle.std.specs.List.{list_all}
use Rattle.std.specs.declared.alloc.Global.{Global}
use Rattle.json.specs.Token.{Token}
use Rattle.json.specs.Json as json
use Rattle.json.specs.Print.{token_text, ends, print_from, ArePrintable}
use Rattle.json.specs.Value.{value_view}
use Rattle.json.specs.declared.value.Value.{Value}
use Rattle.json_requests.specs.JsonFields.{fields_view}
use Rattle.json_requests.specs.MemberFields.{fields_read, fitting, nested, texts}

-- a byte that stands in a string for itself
abbrev pub is_plain : ℕ → Bool
is_plain b = nat_le 32 b && not (b == 34) && not (b == 92)

-- bytes that do
abbrev pub are_plain : List ℕ → Bool
are_plain bytes = list_all is_plain bytes

-- names of such bytes
abbrev pub all_plain : List (List ℕ) → Bool
all_plain names = list_all are_plain names

-- a text begins with a value, whose tokens can be written
pub record BeginsWith (v : Value Global) (text rest : List ℕ) : Type 0 where
  pub tokens : List Token
  pub text_is : text ≡ print_from false tokens ++ rest
  pub printable : ArePrintable tokens
  pub ended : fold (λ _ t. ends t) false tokens ≡ true
  pub some : 0 < length tokens
  pub read : (ts : List Token)
      → fitting (json.value nested (tokens ++ ts)) ≡ Some (value_view v, ts)

-- a text begins with these strings, with commas between them
pub record BeginsStrings (vs : List (Value Global)) (text rest : List ℕ) : Type 0 where
  pub strings : List (List ℕ)
  pub text_is : text ≡ print_from false (map Token.string strings) ++ rest
  pub views : map value_view vs ≡ map json.string strings

-- the comma before a member, unless it is the first
abbrev pub comma_before : Bool → List ℕ
comma_before later = if later then 44 ∷ [] else []

-- a text begins with a member of that name, whose value was put in its place
pub record PutsMember (place : ℕ) (name : List ℕ) (old new : List (Option (Value Global)))
    (text rest : List ℕ) : Type 0 where
  pub value : Value Global
  pub value_text : List ℕ
  pub text_is : text ≡ comma_before (nat_lt 0 place) ++ (token_text (Token.key name) ++ value_text)
  pub begins : BeginsWith value value_text rest
  pub put : new ≡ slice_set old place (Some value)

-- A text begins with members of all the names, whose values are in their places. The tokens are
-- those of the members.
pub record PutsMembers (names : List (Bor (List ℕ))) (vs : List (Option (Value Global)))
    (text rest : List ℕ) : Type 0 where
  pub tokens : List Token
  pub text_is : text ≡ print_from false tokens ++ rest
  pub printable : ArePrintable tokens
  pub read : fields_read (texts names) (tokens ++ Token.end_object ∷ []) ≡ Some (fields_view vs, [])
