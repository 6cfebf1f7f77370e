-- What waits to be written, behind what was written before.
use Rattle.std.proofs.Common.{◌≡◌, ℕ, ◌+◌, List, [], ◌++◌, length, take, refl, ap, subst, sym, ◌∙◌, arith, append_assoc, append-nil, length-append}
use Rattle.std.specs.Prelude.{Option, Some, None}
use Rattle.std.proofs.Math.Seq.{take-append-add}
use Rattle.std.specs.Io.KnownBytes.{Appends}
use Rattle.byte_io.proofs.BytesChained.{Appends-chained}
use Rattle.byte_io.specs.Written.{AppendsPrefix}
use Rattle.replay.specs.Gathered.{IsGathered}

appends_none : (a : Option (List ℕ)) → Appends a a []
appends_none None = tt
appends_none (Some xs) = sym (append-nil xs)

-- nothing was written
pub none_written : (a : Option (List ℕ)) (text : List ℕ) → IsGathered a a text text
none_written a text = ([], refl, appends_none a)

-- all was written
pub all_written : (a b : Option (List ℕ)) (text waiting : List ℕ) → Appends a b text → waiting ≡ [] → IsGathered a b waiting text
all_written a b text waiting p e = (text, sym (append-nil text) ∙ ap (λ w. text ++ w) (sym e), p)

pub written_all : (a b : Option (List ℕ)) (text waiting : List ℕ) → IsGathered a b waiting text → waiting ≡ [] → Appends a b text
written_all a b text waiting p e = subst (λ (t : List ℕ). Appends a b t) (sym (p.1 ∙ ap (λ w. p.0 ++ w) e ∙ append-nil p.0)) p.2

-- a text more, of which some was written with what waited
pub gathered-chained : (a b c : Option (List ℕ)) (xs ys waiting last : List ℕ) → IsGathered a b waiting xs → IsGathered b c last (waiting ++ ys) → IsGathered a c last (xs ++ ys)
gathered-chained a b c xs ys waiting last p q = (
  p.0 ++ q.0,
  ap (λ t. t ++ ys) p.1 ∙ append_assoc p.0 waiting ys ∙ ap (λ t. p.0 ++ t) q.1 ∙ sym (append_assoc p.0 q.0 last),
  Appends-chained a b c p.0 q.0 p.2 q.2,
)

-- no text more
pub gathered-same : (a b : Option (List ℕ)) (text waiting : List ℕ) → IsGathered a b waiting text → IsGathered a b waiting (text ++ [])
gathered-same a b text waiting p = (p.0, append-nil text ∙ p.1, p.2)

-- what waited was written
pub gathered-written : (a b c : Option (List ℕ)) (text waiting : List ℕ) → IsGathered a b waiting text → Appends b c waiting → Appends a c text
gathered-written a b c text waiting p q = subst (λ (t : List ℕ). Appends a c t) (sym p.1) (Appends-chained a b c p.0 waiting p.2 q)

-- what is written whole, and then a part
pub part-behind : (a b c : Option (List ℕ)) (xs ys : List ℕ) → Appends a b xs → AppendsPrefix b c ys → AppendsPrefix a c (xs ++ ys)
part-behind a b c xs ys p q =
    let n = q.0 in
    let cut : take (length xs + n) (xs ++ ys) ≡ xs ++ take n ys = take-append-add xs ys n in
    (length xs + n, simp length-append (omega (arith, q.1)), subst (Appends a c) (sym cut) (Appends-chained a b c xs (take n ys) p q.2))

-- a part of what waited was written
pub gathered-part : (a b c : Option (List ℕ)) (text waiting : List ℕ) → IsGathered a b waiting text → AppendsPrefix b c waiting → AppendsPrefix a c text
gathered-part a b c text waiting p q = subst (λ (t : List ℕ). AppendsPrefix a c t) (sym p.1) (part-behind a b c p.0 waiting p.2 q)

-- a part of what waited and of a text more
pub gathered-longer_part : (a b c : Option (List ℕ)) (xs ys waiting : List ℕ) → IsGathered a b waiting xs → AppendsPrefix b c (waiting ++ ys) → AppendsPrefix a c (xs ++ ys)
gathered-longer_part a b c xs ys waiting p q =
    subst (λ (t : List ℕ). AppendsPrefix a c t) (sym (ap (λ t. t ++ ys) p.1 ∙ append_assoc p.0 waiting ys)) (part-behind a b c p.0 (waiting ++ ys) p.2 q)
