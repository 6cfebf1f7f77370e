-- Bodies of requests, which are JSON.
use Rattle.std.specs.Prelude.{ℕ, ◌==◌, List, length, Option, None, codes, if◌then◌else◌}
use Rattle.std.specs.Str.{is_utf8}
use Rattle.serde_json.specs.Data.{Data}
use Rattle.serde_json.specs.Read.{read}
use Rattle.vocabulary.specs.OptionSteps.{◌>>=◌}
use Rattle.json_requests.specs.JsonFields.{Fields, fields_in}

-- an empty body stands for an object with no fields
abbrev pub or_empty_object : List ℕ → List ℕ
or_empty_object body = if length body == 0 then codes "{}" else body

-- the value that bytes are, if they are UTF-8 and JSON
unfoldable pub value_of : List ℕ → Option Data
value_of bytes = if is_utf8 bytes then read bytes else None

-- the value that a body is
unfoldable pub body_of : List ℕ → Option Data
body_of body = value_of (or_empty_object body)

-- what stands at each of the names in the object that a value is, which has no other field
abbrev pub fields_from : List (List ℕ) → Option Data → Option Fields
fields_from names value = value >>= fields_in names

-- what a body says, by the reading of what stands at the names
unfoldable pub read_by : {A : Type 0} → List (List ℕ) → (Fields → Option A) → List ℕ → Option A
read_by names reading body = fields_from names (body_of body) >>= reading
