-- Places of items in a list, and places that a map keeps by key.
use Rattle.std.specs.Prelude.{◌≡◌, ℕ, suc, Bool, false, Option, List, [], ◌∷◌, map, Vec, if◌then◌else◌}
use Rattle.std.specs.HashMap.{HashMap, get}
use Rattle.std.specs.Option.{option_map_or}
use Rattle.std.specs.Ordering.{is_eq}
use Rattle.std.specs.declared.alloc.Global.{Global}
use Rattle.std.specs.declared.cmp.Ordering.{Ordering}

-- there is a key, and it is the wanted one
abbrev pub is_at_key : {K : Type 0} → (K → K → Ordering) → Option K → K → Bool
is_at_key cmp found wanted = option_map_or (λ key. is_eq (cmp key wanted)) found false

-- there is a key, and it is equal to the wanted one
abbrev pub is_equal_key : {K : Type 0} → (K → K → Bool) → Option K → K → Bool
is_equal_key eq found wanted = option_map_or (λ key. eq key wanted) found false

-- the item's first key is the wanted one
abbrev pub has_first : {T K : Type 0} → (K → K → Ordering) → (T → K) → K → T → Bool
has_first cmp first wanted item = is_eq (cmp (first item) wanted)

-- the item has a second key, and it is the wanted one
abbrev pub has_second : {T K : Type 0} → (K → K → Ordering) → (T → Option K) → K → T → Bool
has_second cmp second wanted item = is_at_key cmp (second item) wanted

-- the places of the items that pass, ascending
abbrev pub places_passing : {A : Type 0} → (A → Bool) → List A → List ℕ
places_passing test [] = []
places_passing test (x ∷ xs) =
    if test x then 0 ∷ map suc (places_passing test xs) else map suc (places_passing test xs)

-- the places that a map keeps for a key
abbrev pub places_at : {K S : Type 0} → (K → K → Bool) → HashMap K (Vec ℕ Global) S → K → List ℕ
places_at eq filed key =
    option_map_or (λ (places : Vec ℕ Global). places.items) (get eq filed key) []

-- the places that are kept for each key are those of the items that have it
abbrev pub AreFiled : {T K S : Type 0} → (K → K → Bool) → (K → T → Bool) → List T
    → HashMap K (Vec ℕ Global) S → Type 0
AreFiled {T} {K} eq has items filed =
    (key : K) → places_at eq filed key ≡ places_passing (has key) items
