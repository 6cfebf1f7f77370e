use Rattle.std.proofs.Common.{◌≡◌, List, [], ◌∷◌, suc, length, refl, ap}
use Rattle.std.specs.declared.alloc.Global.{Global}
use Rattle.serde_json.specs.Events.{items_len}
use Rattle.json.specs.declared.value.Value.{Value}
use Rattle.json_requests.specs.BodyValues.{items_view}

-- as many items are seen as there are values
pub items_seen : (vs : List (Value Global)) → items_len (items_view vs) ≡ length vs
items_seen [] = refl
items_seen (v ∷ vs) = ap suc (items_seen vs)
