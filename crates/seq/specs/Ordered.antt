-- Lists whose values differ, and lists in order.
use Rattle.std.specs.Prelude.{◌≡◌, Bool, true, not, ◌&&◌, List, [], ◌∷◌}
use Rattle.std.specs.List.{list_any}
use Rattle.std.specs.Ordering.{is_lt, is_eq}
use Rattle.std.specs.declared.cmp.Ordering.{Ordering}
use Rattle.std.specs.declared.cmp.Ordering.TheVariants.{Equal}

-- no two values are alike
abbrev pub differ_by : {X : Type 0} → (X → X → Bool) → List X → Bool
differ_by alike [] = true
differ_by alike (x ∷ xs) = not (list_any (alike x) xs) && differ_by alike xs

-- each value comes before the next
abbrev pub ascends_by : {X : Type 0} → (X → X → Bool) → List X → Bool
ascends_by before [] = true
ascends_by before (x ∷ []) = true
ascends_by before (x ∷ y ∷ rest) = before x y && ascends_by before (y ∷ rest)

-- the key of the first value is less than that of the second
abbrev pub key_before : {X K : Type 0} → (X → K) → (K → K → Ordering) → X → X → Bool
key_before key cmp a b = is_lt (cmp (key a) (key b))

-- both values have equal keys
abbrev pub same_key : {X K : Type 0} → (X → K) → (K → K → Ordering) → X → X → Bool
same_key key cmp a b = is_eq (cmp (key a) (key b))

-- the value has this key
abbrev pub has_key : {X K : Type 0} → (X → K) → (K → K → Ordering) → K → X → Bool
has_key key cmp wanted value = is_eq (cmp (key value) wanted)

-- values that the order does not distinguish are the same value
abbrev pub IsExact : {X : Type 0} → (X → X → Ordering) → Type 0
IsExact {X} order = (a b : X) → order a b ≡ Equal → a ≡ b
