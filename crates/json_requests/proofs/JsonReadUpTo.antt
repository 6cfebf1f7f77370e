use Rattle.std.proofs.Common.{◌≡◌, ℕ, List, ◌++◌, drop, Option, Some, None}
use Rattle.std.specs.declared.alloc.Global.{Global}
use Rattle.serde_json.specs.Data.{Data}
use Rattle.json.specs.declared.value.Value.{Value}
use Rattle.json_requests.specs.BodyValues.{items_view}
use Rattle.json_requests.specs.JsonFields.{all_items}

-- what was found, and then the rest
abbrev pub onto : {A : Type 0} → List A → Option (List A) → Option (List A)
onto found (Some rest) = Some (found ++ rest)
onto found None = None

-- of each of the values, those before an index are read
pub record IsReadUpTo {A : Type 0} (reading : Data → Option A) (vs : List (Value Global)) (found : List A) (i : ℕ) : Type 0 where
  pub so_far : all_items reading (items_view vs) ≡ onto found (all_items reading (items_view (drop i vs)))
