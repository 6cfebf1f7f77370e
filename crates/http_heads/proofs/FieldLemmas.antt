use Rattle.std.proofs.Common.{◌≡◌, ℕ, ◌<◌, ◌+◌, ◌-◌, ◌*◌, min, Bool, true, false, cond, List, [], ◌∷◌, ◌++◌, map, length, get_or, take, refl, ap, ◌∙◌, arith, add-one}
use Rattle.std.specs.Bool.{Decides}
use Rattle.std.specs.List.{filter, list_all}
use Rattle.std.specs.Char.{to_ascii_lowercase, is_ascii_digit, digit_value}
use Rattle.std.specs.Str.Parse.{digits_value}
use Rattle.std.proofs.lemmas.List.{map-append, append-nil}
use Rattle.std.proofs.lemmas.List.Elements.{filter-append}
use Rattle.std.proofs.lemmas.Int.Digits.{digits_value_more}
use Rattle.std.proofs.lemmas.Bool.Decides.{Decides-eqb, nat_tests}
use Rattle.std.proofs.lemmas.List.Folds.{list_all_at}
use Rattle.std.proofs.lemmas.Slice.Eq.{slice_eq-Decides}
use Rattle.std.proofs.Math.Seq.{take-suc}
use Rattle.http_heads.specs.Fields.{same_field, values_of}

-- names are the same where their lower letters are
pub name_decides : (a b : List ℕ) → Decides (same_field a b) (map to_ascii_lowercase a ≡ map to_ascii_lowercase b)
name_decides a b = slice_eq-Decides Decides-eqb (map to_ascii_lowercase a) (map to_ascii_lowercase b) (same_field a b) refl

settled : (b : Bool) → (b ≡ false → ⊥) → b ≡ true
settled true not_false = refl
settled false not_false = absurd (not_false refl)

passes_at : (p : ℕ → Bool) (xs : List ℕ) (i : ℕ) → i < length xs → list_all p xs ≡ true → p (get_or xs i 0) ≡ true
passes_at p xs i inside all =
    settled (p (get_or xs i 0)) (λ e. let none : list_all p xs ≡ false = list_all_at p xs i 0 inside e in absurd (cc))

digit_is : (b : ℕ) → is_ascii_digit b ≡ true → digit_value b ≡ b - 48
digit_is b h = grind (arith, nat_tests)

-- the value of each byte, where all are digits
pub digit_at : (ds : List ℕ) (i : ℕ) → i < length ds → list_all is_ascii_digit ds ≡ true → digit_value (get_or ds i 0) ≡ get_or ds i 0 - 48
digit_at ds i inside all = digit_is (get_or ds i 0) (passes_at is_ascii_digit ds i inside all)

-- one digit more
pub capped_more : (ds : List ℕ) (i n m : ℕ) → i < length ds → n ≡ min (digits_value 10 (take i ds)) (m + 1)
    → min (n * 10 + digit_value (get_or ds i 0)) (m + 1) ≡ min (digits_value 10 (take (i + 1) ds)) (m + 1)
capped_more ds i n m inside e = omega (arith, digits_value_more 10 ds i inside)

values_of-push : (name : List ℕ) (fields : List (List ℕ × List ℕ)) (field : List ℕ × List ℕ)
    → values_of name (fields ++ field ∷ []) ≡ values_of name fields ++ map (λ f. f.1) (cond (same_field field.0 name) (field ∷ []) [])
values_of-push name fields field =
    ap (map (λ (f : List ℕ × List ℕ). f.1)) (filter-append (λ f. same_field f.0 name) fields (field ∷ []))
    ∙ map-append (λ f. f.1) (filter (λ f. same_field f.0 name) fields) (filter (λ f. same_field f.0 name) (field ∷ []))

one_more : {A : Type 0} (h : A → List ℕ × List ℕ) (items : List A) (i : ℕ) (d : A) → i < length items
    → map h (take (i + 1) items) ≡ map h (take i items) ++ h (get_or items i d) ∷ []
one_more h items i d inside = rw (add-one, take-suc items i d inside) (map-append h (take i items) (get_or items i d ∷ []))

-- one field more, which has the name
pub values_of-named : {A : Type 0} (name : List ℕ) (h : A → List ℕ × List ℕ) (items : List A) (i : ℕ) (d : A) → i < length items
    → same_field (h (get_or items i d)).0 name ≡ true
    → values_of name (map h (take (i + 1) items)) ≡ values_of name (map h (take i items)) ++ (h (get_or items i d)).1 ∷ []
values_of-named name h items i d inside named =
    ap (values_of name) (one_more h items i d inside) ∙ values_of-push name (map h (take i items)) (h (get_or items i d))
    ∙ ap (λ b. values_of name (map h (take i items)) ++ map (λ (f : List ℕ × List ℕ). f.1) (cond b (h (get_or items i d) ∷ []) [])) named

-- one field more, which has another
pub values_of-other : {A : Type 0} (name : List ℕ) (h : A → List ℕ × List ℕ) (items : List A) (i : ℕ) (d : A) → i < length items
    → same_field (h (get_or items i d)).0 name ≡ false
    → values_of name (map h (take (i + 1) items)) ≡ values_of name (map h (take i items))
values_of-other name h items i d inside other =
    ap (values_of name) (one_more h items i d inside) ∙ values_of-push name (map h (take i items)) (h (get_or items i d))
    ∙ ap (λ b. values_of name (map h (take i items)) ++ map (λ (f : List ℕ × List ℕ). f.1) (cond b (h (get_or items i d) ∷ []) [])) other
    ∙ append-nil (values_of name (map h (take i items)))
