-- Places that a map keeps by key.
use Rattle.std.proofs.Common.{◌≡◌, ℕ, Bool, true, false, cond, List, [], ◌∷◌, ◌++◌, Vec, Global, append-nil, refl, sym, ap, ◌∙◌}
use Rattle.std.specs.Prelude.{Option, Some, None, vec_len}
use Rattle.std.specs.Cmp.{IsEquivalence}
use Rattle.std.specs.HashMap.{HashMap, get}
use Rattle.std.specs.Map.{lookup}
use Rattle.std.specs.Option.{option_map_or, UnwrapsOrElse}
use Rattle.keyed_seq.specs.Positions.{places_at}

-- equal keys find the same entry
lookup-tied : {K X : Type 0} {eq : K → K → Bool} (laws : IsEquivalence eq) (a b : K) → eq a b ≡ true → (es : List (K × X)) → lookup (eq a) es ≡ lookup (eq b) es
lookup-tied laws a b tied [] = refl
lookup-tied {X = X} {eq = eq} laws a b tied (e ∷ es) =
    ap (λ t. cond t (Some e.1) (lookup (eq a) es)) (laws.congr a b e.0 tied)
    ∙ ap (λ r. cond (eq b e.0) (Some e.1) r) (lookup-tied laws a b tied es)

-- the places that are found, and none where nothing is
abbrev pub places_in : Option (Vec ℕ Global) → List ℕ
places_in found = option_map_or (λ (places : Vec ℕ Global). places.items) found []

-- a list that is new where there was none holds what was found
pub places_in-or_default : (found : Option (Vec ℕ Global)) (there : Vec ℕ Global) → UnwrapsOrElse found (λ x. (x.items ≡ []) × (vec_len x ≡ 0)) there → there.items ≡ places_in found
places_in-or_default None there made = made.0
places_in-or_default (Some places) there is = ap (λ (p : Vec ℕ Global). p.items) is

-- a look-up after one place was put to a key's
pub places_in-added : {K S : Type 0} {eq : K → K → Bool} (laws : IsEquivalence eq) (filed : HashMap K (Vec ℕ Global) S) (after : Option (Vec ℕ Global)) (key other : K) (place : ℕ) (places : Vec ℕ Global)
    → after ≡ cond (eq key other) (Some places) (get eq filed other) → places.items ≡ places_at eq filed key ++ place ∷ []
    → places_in after ≡ places_at eq filed other ++ cond (eq key other) (place ∷ []) []
places_in-added {K} {S} {eq} laws filed after key other place places put added =
    ap places_in put
    ∙ ((elim (eq key other) as (λ b. eq key other ≡ b → places_in (cond b (Some places) (get eq filed other)) ≡ places_at eq filed other ++ cond b (place ∷ []) []) [
      | true ↦ λ e. added ∙ ap (λ found. places_in found ++ place ∷ []) (lookup-tied laws key other e filed.entries)
      | false ↦ λ e. sym (append-nil _)
    ]) refl)
