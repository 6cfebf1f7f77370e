-- What is written of a reply, a token at a time, for private clauses.
use Rattle.std.specs.Prelude.{◌≡◌, ℕ, List, [], ◌∷◌, ◌++◌, Some, ⊤}
use Rattle.json.specs.Token.{Token, key}
use Rattle.json.specs.Tree.{json_tokens}
use Rattle.json.specs.Written.{Written}
use Rattle.serde_json.specs.Data.{Data}
use Rattle.serde_json.specs.Read.{of_json}
use Rattle.serde_json.specs.Written.{outline}

-- the tokens of a value
abbrev pub data_tokens : Data → List Token
data_tokens d = json_tokens (outline d)

-- the tokens of members, each its name and its value, without the brackets around them
abbrev pub named_tokens : List (List ℕ × Data) → List Token
named_tokens [] = []
named_tokens (m ∷ ms) = key m.0 ∷ (data_tokens m.1 ++ named_tokens ms)

-- the tokens of the value are read back as the value
abbrev pub ReadsBack : Data → Type 0
ReadsBack d = of_json (outline d) ≡ Some d

-- so is each of these members
abbrev pub ReadBack : List (List ℕ × Data) → Type 0
ReadBack [] = ⊤
ReadBack (m ∷ ms) = ReadsBack m.1 × ReadBack ms

-- these tokens are written, after those that stood
pub record Appends (ts : List Token) (old new : Written) : Type 0 where
  pub tokens : new.tokens ≡ old.tokens ++ ts
  pub before : new.before ≡ old.before

-- the tokens of values, one after another
abbrev pub values_tokens : List Data → List Token
values_tokens [] = []
values_tokens (d ∷ ds) = data_tokens d ++ values_tokens ds

-- the tokens of each of these values are read back as the value
abbrev pub ValuesRead : List Data → Type 0
ValuesRead [] = ⊤
ValuesRead (d ∷ ds) = ReadsBack d × ValuesRead ds

-- the value is written, and is read back
pub record WritesValue (d : Data) (old new : Written) : Type 0 where
  pub appends : Appends (data_tokens d) old new
  pub reads : ReadsBack d

-- the members are written, and each is read back
pub record WritesMembers (ms : List (List ℕ × Data)) (old new : Written) : Type 0 where
  pub appends : Appends (named_tokens ms) old new
  pub reads : ReadBack ms

-- the values are written one after another, and each is read back
pub record WritesValues (ds : List Data) (old new : Written) : Type 0 where
  pub appends : Appends (values_tokens ds) old new
  pub reads : ValuesRead ds
