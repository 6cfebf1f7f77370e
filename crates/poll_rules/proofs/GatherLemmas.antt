-- Values that are kept by party.
use Rattle.std.proofs.Common.{◌≡◌, ℕ, Bool, true, false, cond, List, [], ◌∷◌, ◌++◌, map, Vec, Global, refl, sym, ap, ◌∙◌}
use Rattle.std.specs.Prelude.{Option, Some, None, vec_len, filter, ◌&&◌, ◌||◌}
use Rattle.std.specs.Cmp.Lexicographic.{texts_ties}
use Rattle.std.specs.List.{list_any}
use Rattle.std.specs.Option.{option_map_or, UnwrapsOrElse}
use Rattle.std.specs.Ordering.{is_eq}
use Rattle.seq.proofs.Filtered.{any-filter}
use Rattle.vocabulary.specs.Names.{same_name, name_cmp}
use Rattle.desk_words.proofs.WordRowLemmas.{same_name-true}
use Rattle.desk_words.specs.declared.records.Authority.{Authority}
use Rattle.proxy_rules.specs.Parties.{is_authority_of}

-- ---- a value more

-- the values that are found, and none where nothing is
abbrev pub items_in : {X : Type 0} → Option (Vec X Global) → List X
items_in {X} found = option_map_or (λ (own : Vec X Global). own.items) found []

-- a list that is new where there was none holds what was found
pub items_in-or_default : {X : Type 0} (found : Option (Vec X Global)) (there : Vec X Global) → UnwrapsOrElse found (λ x. (x.items ≡ []) × (vec_len x ≡ 0)) there → there.items ≡ items_in found
items_in-or_default None there made = made.0
items_in-or_default {X} (Some own) there is = ap (λ (v : Vec X Global). v.items) is

-- a look-up after one value was put to a party's
pub items_in-added : {X : Type 0} (found : List ℕ → Option (Vec X Global)) (after : Option (Vec X Global)) (party other : List ℕ) (value : X) (own : Vec X Global)
    → after ≡ cond (is_eq (name_cmp party other)) (Some own) (found other) → own.items ≡ items_in (found party) ++ value ∷ []
    → items_in after ≡ cond (same_name party other) (items_in (found other) ++ value ∷ []) (items_in (found other))
items_in-added found after party other value own put added =
    let tied : after ≡ cond (same_name party other) (Some own) (found other) = put ∙ ap (λ b. cond b (Some own) (found other)) (sym (texts_ties party other)) in
    ap items_in tied
    ∙ ((elim (same_name party other) as (λ b. same_name party other ≡ b → items_in (cond b (Some own) (found other)) ≡ cond b (items_in (found other) ++ value ∷ []) (items_in (found other))) [
      | true ↦ λ e. added ∙ ap (λ name. items_in (found name) ++ value ∷ []) (same_name-true party other e)
      | false ↦ λ e. refl
    ]) refl)

-- ---- the persons whom a party authorised

pub list_any-map : {X Y : Type 0} (p : Y → Bool) (h : X → Y) (xs : List X) → list_any p (map h xs) ≡ list_any (λ x. p (h x)) xs
list_any-map p h [] = refl
list_any-map p h (x ∷ xs) = ap (λ b. p (h x) || b) (list_any-map p h xs)

-- whether any person whom a party authorised passes
pub any-authorised : (p : List ℕ → Bool) (authorities : List Authority) (corporation : List ℕ)
    → list_any p (map (λ (a : Authority). a.person) (filter (is_authority_of corporation) authorities)) ≡ list_any (λ (a : Authority). same_name a.corporation corporation && p a.person) authorities
any-authorised p authorities corporation =
    list_any-map p (λ (a : Authority). a.person) (filter (is_authority_of corporation) authorities)
    ∙ any-filter (λ (a : Authority). p a.person) (is_authority_of corporation) authorities
