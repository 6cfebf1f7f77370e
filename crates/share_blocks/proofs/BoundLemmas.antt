-- How many pieces a cover leaves.
use Rattle.std.proofs.Common.{◌≡◌, ℕ, ◌+◌, ◌*◌, ◌≤◌, true, false, ◌&&◌, cond, List, [], ◌∷◌, ◌++◌, length, refl, ap, ◌∙◌, arith}
use Rattle.std.specs.Prelude.{nat_le, nat_lt, fold}
use Rattle.std.proofs.lemmas.Bool.{le-ltb, leb-true}
use Rattle.std.proofs.lemmas.List.{length-map}
use Rattle.std.specs.Cmp.{second_so}
use Rattle.desk_words.specs.Places.{Places}
use Rattle.share_blocks.specs.Covers.{Cover, pieces_after}
use Rattle.share_blocks.specs.Pieces.{Piece, covered, cut_at, follow_from, split_at, ranges_of, straddles, tagged, uncovered}
use Rattle.std.proofs.lemmas.List.Sums.{fold-append}
use Rattle.share_blocks.proofs.BlockCoverLemmas.{follow_from-pieces_after}
use Rattle.share_blocks.proofs.CutLemmas.{follow_from-cut_at, follows, holds_all}

-- pieces from the place on have it in front
uncut : (x first : ℕ) (ps : List Piece) → follow_from first (ranges_of ps) ≡ true → x ≤ first → cut_at x ps ≡ ps
uncut x first [] all low = refl
uncut x first (p ∷ ps) all low =
    let f = follows first p.range (ranges_of ps) all in
    ap (λ b. cond (b && nat_le x p.range.to) (split_at x p) (p ∷ []) ++ cut_at x ps) (le-ltb p.range.from x (omega (arith, low, f.begins)))
    ∙ ap (λ l. p ∷ l) (uncut x (p.range.to + 1) ps f.rest (omega (arith, low, f.within)))

-- a cut parts one piece at most
length-cut_at : (x first : ℕ) (ps : List Piece) → follow_from first (ranges_of ps) ≡ true → length (cut_at x ps) ≤ length ps + 1
length-cut_at x first [] all = omega arith
length-cut_at x first (p ∷ ps) all =
    let f = follows first p.range (ranges_of ps) all in
    (elim (straddles x p.range) as (λ b. straddles x p.range ≡ b → length (cond b (split_at x p) (p ∷ []) ++ cut_at x ps) ≤ length (p ∷ ps) + 1) [
      | true ↦ λ is.
          let within : x ≤ p.range.to = leb-true x p.range.to (second_so (nat_lt p.range.from x) (nat_le x p.range.to) is) in
          omega (arith, ap length (uncut x (p.range.to + 1) ps f.rest (omega (arith, within))))
      | false ↦ λ is. omega (arith, length-cut_at x (p.range.to + 1) ps f.rest)
    ]) refl

-- a covered range parts two at most
pub length-covered : (range : Places) (tag : ℕ) (ps : List Piece) → follow_from 1 (ranges_of ps) ≡ true → length (covered range tag ps) ≤ length ps + 2
length-covered range tag ps all =
    let once = cut_at range.from ps in
    omega (arith, length-map (cut_at (range.to + 1) once) (tagged range tag), length-cut_at (range.to + 1) 1 once (follow_from-cut_at range.from ps 1 ∙ all), length-cut_at range.from 1 ps all)

length-pieces_from : (covers : List Cover) (ps : List Piece) → follow_from 1 (ranges_of ps) ≡ true
    → length (fold (λ (pieces : List Piece) (cover : Cover). covered cover.0 cover.1 pieces) ps covers) ≤ length ps + 2 * length covers
length-pieces_from [] ps all = omega arith
length-pieces_from (c ∷ cs) ps all =
    omega (arith, length-pieces_from cs (covered c.0 c.1 ps) (holds_all c.0 c.1 ps 1 ∙ all), length-covered c.0 c.1 ps all)

-- ranges that were covered in turn leave at most twice as many pieces, and one
pub length-pieces_after : (covers : List Cover) → length (pieces_after covers) ≤ 2 * length covers + 1
length-pieces_after covers = omega (arith, length-pieces_from covers uncovered refl)

-- and with a range more two more, at most
pub length-pieces_more : (covers : List Cover) (cover : Cover) → length (pieces_after (covers ++ cover ∷ [])) ≤ length (pieces_after covers) + 2
length-pieces_more covers cover =
    omega (arith, ap length (fold-append (λ (pieces : List Piece) (cover : Cover). covered cover.0 cover.1 pieces) uncovered covers (cover ∷ [])), length-covered cover.0 cover.1 (pieces_after covers) (follow_from-pieces_after covers))
