-- Pieces that follow one another, and the one that holds a place.
use Rattle.std.proofs.Common.{◌≡◌, ℕ, zero, suc, ◌+◌, ◌<◌, ◌≤◌, Bool, true, false, ◌&&◌, cond, List, [], ◌∷◌, length, get_or, refl, ap, sym, ◌∙◌, arith}
use Rattle.std.specs.Prelude.{◌==◌, nat_le, nat_lt, find, Option, Some, None, option_and_then, slice_get}
use Rattle.std.specs.List.Sorted.{IsPartitionPoint, IsPartitionedBy}
use Rattle.std.specs.Cmp.{first_so, second_so}
use Rattle.std.proofs.Math.Bool.{and-false}
use Rattle.std.proofs.lemmas.Bool.{eqb-true, leb-true, le-leb, lt-leb, lt-ltb, ltb-false, ltb-true}
use Rattle.vocabulary.specs.Places.{holds}
use Rattle.proxy_rules.specs.declared.pieces.GovernedPiece.{GovernedPiece}
use Rattle.proxy_rules.specs.Tiles.{are_tiled, governed_ranges}
use Rattle.vote_rules.specs.Ballots.{AreInOrder, piece_at}

record Next (first : ℕ) (p : GovernedPiece) (ps : List GovernedPiece) (last : ℕ) : Type 0 where
  begins : p.range.from ≡ first
  within : first ≤ p.range.to
  rest : are_tiled (p.range.to + 1) (governed_ranges ps) last ≡ true

next : (first : ℕ) (p : GovernedPiece) (ps : List GovernedPiece) (last : ℕ) → are_tiled first (governed_ranges (p ∷ ps)) last ≡ true → Next first p ps last
next first p ps last h =
    let front = first_so ((p.range.from == first) && nat_le first p.range.to) (are_tiled (p.range.to + 1) (governed_ranges ps) last) h in
    record {
      begins = eqb-true p.range.from first (first_so (p.range.from == first) (nat_le first p.range.to) front);
      within = leb-true first p.range.to (second_so (p.range.from == first) (nat_le first p.range.to) front);
      rest = second_so ((p.range.from == first) && nat_le first p.range.to) (are_tiled (p.range.to + 1) (governed_ranges ps) last) h;
    }

-- whether a piece holds the place
abbrev has : ℕ → GovernedPiece → Bool
has place p = holds p.range place

-- the piece, if it holds the place
abbrev pub if_has : ℕ → GovernedPiece → Option GovernedPiece
if_has place p = cond (has place p) (Some p) None

none_before : (first last : ℕ) (ps : List GovernedPiece) (place : ℕ) → are_tiled first (governed_ranges ps) last ≡ true → place < first → find (has place) ps ≡ None
none_before first last [] place all low = refl
none_before first last (p ∷ ps) place all low =
    let n = next first p ps last all in
    ap (λ b. cond (b && nat_le place p.range.to) (Some p) (find (has place) ps)) (lt-leb p.range.from place (omega (arith, low, n.begins)))
    ∙ none_before (p.range.to + 1) last ps place n.rest (omega (arith, low, n.within))

-- the piece that holds the place is the first one that reaches it, if that holds it
find-reaching : (first last : ℕ) (ps : List GovernedPiece) (place i : ℕ) → are_tiled first (governed_ranges ps) last ≡ true
    → ((k : ℕ) (d : GovernedPiece) → k < i → k < length ps → (get_or ps k d).range.to < place) → ((k : ℕ) (d : GovernedPiece) → i ≤ k → k < length ps → place ≤ (get_or ps k d).range.to)
    → find (has place) ps ≡ option_and_then (if_has place) (slice_get ps i)
find-reaching first last [] place i all before after = refl
find-reaching first last (p ∷ ps) place zero all before after =
    let n = next first p ps last all in
    let reaches : place ≤ p.range.to = after 0 p (omega arith) (omega arith) in
    (elim (nat_le p.range.from place) as (λ b. nat_le p.range.from place ≡ b → cond (b && nat_le place p.range.to) (Some p) (find (has place) ps) ≡ cond (b && nat_le place p.range.to) (Some p) None) [
      | true ↦ λ is. ap (λ b. cond b (Some p) (find (has place) ps)) (le-leb place p.range.to reaches) ∙ ap (λ b. cond b (Some p) None) (sym (le-leb place p.range.to reaches))
      | false ↦ λ is. none_before (p.range.to + 1) last ps place n.rest (omega (arith, reaches))
    ]) refl
find-reaching first last (p ∷ ps) place (suc i) all before after =
    let n = next first p ps last all in
    let past : p.range.to < place = before 0 p (omega arith) (omega arith) in
    ap (λ b. cond (nat_le p.range.from place && b) (Some p) (find (has place) ps)) (lt-leb place p.range.to past)
    ∙ ap (λ b. cond b (Some p) (find (has place) ps)) (and-false (nat_le p.range.from place))
    ∙ find-reaching (p.range.to + 1) last ps place i n.rest
    (λ k d low inside. before (suc k) d (omega (arith, low)) (omega (arith, inside)))
    (λ k d high inside. after (suc k) d (omega (arith, high)) (omega (arith, inside)))

-- the ends of the pieces rise
ends_rise : (first last : ℕ) (ps : List GovernedPiece) → are_tiled first (governed_ranges ps) last ≡ true → (k : ℕ) (d : GovernedPiece) → k < length ps → first ≤ (get_or ps k d).range.to
ends_rise first last [] all k d low = absurd (omega (arith, low))
ends_rise first last (p ∷ ps) all zero d low = (next first p ps last all).within
ends_rise first last (p ∷ ps) all (suc k) d low =
    let n = next first p ps last all in
    omega (arith, n.within, ends_rise (p.range.to + 1) last ps n.rest k d (omega (arith, low)))

-- those that end before the place come first
pub reached_last : (first last : ℕ) (ps : List GovernedPiece) (place : ℕ) → are_tiled first (governed_ranges ps) last ≡ true → IsPartitionedBy (λ (p : GovernedPiece). nat_lt p.range.to place) ps
reached_last first last [] place all i j d order low later = absurd (omega (arith, low))
reached_last first last (p ∷ ps) place all zero zero d order low later = later
reached_last first last (p ∷ ps) place all zero (suc j) d order low later =
    let n = next first p ps last all in
    let far = ends_rise (p.range.to + 1) last ps n.rest j d (omega (arith, low)) in
    lt-ltb p.range.to place (omega (arith, far, ltb-true (get_or ps j d).range.to place later))
reached_last first last (p ∷ ps) place all (suc i) zero d order low later = absurd (omega (arith, order))
reached_last first last (p ∷ ps) place all (suc i) (suc j) d order low later =
    let n = next first p ps last all in
    reached_last (p.range.to + 1) last ps place n.rest i j d (omega (arith, order)) (omega (arith, low)) later

-- so it is found by halves
pub find-piece : (governed : List GovernedPiece) (place i : ℕ) → AreInOrder governed
    → IsPartitionPoint (λ (p : GovernedPiece). nat_lt p.range.to place ≡ true) (λ (p : GovernedPiece). nat_lt p.range.to place ≡ false) governed i
    → piece_at governed place ≡ option_and_then (if_has place) (slice_get governed i)
find-piece governed place i order point =
    find-reaching 1 order.0 governed place i order.1
    (λ k d low inside. ltb-true (get_or governed k d).range.to place (point.0 k d (omega arith) low))
    (λ k d high inside. ltb-false (get_or governed k d).range.to place (point.1 k d high inside))
