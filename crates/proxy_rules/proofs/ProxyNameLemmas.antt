-- What is filed under a name, found by the order of letters, is what has that name.
use Rattle.std.proofs.Common.{◌≡◌, ℕ, true, false, List, Vec, Global, filter, refl, ap, sym, subst, ◌∙◌, true≢false}
use Rattle.std.specs.Prelude.{Bool, Result, IfOk}
use Rattle.std.specs.Cmp.Lexicographic.{texts_ties}
use Rattle.std.specs.Ordering.{is_eq}
use Rattle.vocabulary.specs.Names.{same_name, name_cmp}
use Rattle.desk_words.proofs.WordRowLemmas.{same_name-true, same_name-refl}

-- the order tells two names apart exactly where they are not the same
pub test-named : {X : Type 0} (name : X → List ℕ) (wanted : List ℕ) → ◌≡◌ {A = X → Bool} (λ x. is_eq (name_cmp (name x) wanted)) (λ x. same_name (name x) wanted)
test-named name wanted = λ i x. sym (texts_ties (name x) wanted) i

pub filter-named : {X : Type 0} (name : X → List ℕ) (wanted : List ℕ) (xs : List X) → filter (λ x. is_eq (name_cmp (name x) wanted)) xs ≡ filter (λ x. same_name (name x) wanted) xs
filter-named name wanted xs = ap (λ test. filter test xs) (test-named name wanted)

-- the values that were found under a name are those that have it
pub found-named : {X E : Type 0} (name : X → List ℕ) (wanted : List ℕ) (xs : List X) (found : Result (Vec X Global) E)
    → IfOk found (λ (values : Vec X Global). values.items ≡ filter (λ x. is_eq (name_cmp (name x) wanted)) xs)
    → IfOk found (λ (values : Vec X Global). values.items ≡ filter (λ x. same_name (name x) wanted) xs)
found-named {X} name wanted xs found h =
    subst (λ (test : X → Bool). IfOk found (λ (values : Vec X Global). values.items ≡ filter test xs)) (test-named name wanted) h

pub same_name-sym : (a b : List ℕ) → same_name a b ≡ same_name b a
same_name-sym a b =
    (elim (same_name a b) as (λ c. same_name a b ≡ c → c ≡ same_name b a) [
      | true ↦ λ e. let same = same_name-true a b e in sym (ap (λ n. same_name b n) same ∙ same_name-refl b)
      | false ↦ λ e. (elim (same_name b a) as (λ d. same_name b a ≡ d → false ≡ d) [
        | true ↦ λ f. absurd (true≢false (sym (same_name-refl a) ∙ ap (λ n. same_name a n) (sym (same_name-true b a f)) ∙ e))
        | false ↦ λ f. refl
      ]) refl
    ]) refl
