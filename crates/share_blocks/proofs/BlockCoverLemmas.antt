-- What ranges that were covered in turn leave.
use Rattle.std.proofs.Common.{◌≡◌, ℕ, ◌+◌, ◌<◌, ◌≤◌, Bool, true, false, ◌&&◌, ◌||◌, cond, List, [], ◌∷◌, ◌++◌, map, reverse, filter, refl, ap, sym, ◌∙◌, arith, append_assoc}
use Rattle.std.specs.Prelude.{nat_le, ◌==◌, fold, find, Some, None, All}
use Rattle.std.specs.List.{AllByRecursion}
use Rattle.std.specs.Option.{option_map}
use Rattle.std.proofs.lemmas.List.{map-append, append-nil}
use Rattle.std.proofs.lemmas.List.Elements.{filter-append, All-from_recursion}
use Rattle.vocabulary.specs.declared.range.TheConstants.{MOST_PLACES}
use mathlib.Core.List.{reverse-cons}
use Rattle.seq.proofs.Booleans.{same_false}
use Rattle.std.proofs.Math.Bool.{and-false, or-false, or_assoc}
use Rattle.std.proofs.lemmas.Bool.{and_from, eqb-true, le-leb, leb-true, lt-leb}
use Rattle.std.specs.Cmp.{first_so, second_so}
use Rattle.desk_words.specs.Places.{Places, holds}
use Rattle.share_blocks.specs.Pieces.{Piece, uncovered, ranges_of, tags_at, covered, follow_from, begin_at, is_place, AreAlike}
use Rattle.share_blocks.specs.Covers.{Cover, tags_of, newest_of, is_cut, pieces_after}
use Rattle.share_blocks.proofs.CutLemmas.{holds_all, tags_at-covered, begin_at-covered, follows}

-- what is left of pieces when ranges were covered in turn
abbrev pub pieces_from : List Piece → List Cover → List Piece
pieces_from pieces covers = fold (λ (pieces : List Piece) (cover : Cover). covered cover.0 cover.1 pieces) pieces covers

follow_from-pieces_from : (ps : List Piece) (covers : List Cover) (first : ℕ) → follow_from first (ranges_of (pieces_from ps covers)) ≡ follow_from first (ranges_of ps)
follow_from-pieces_from ps [] first = refl
follow_from-pieces_from ps (c ∷ cs) first = follow_from-pieces_from (covered c.0 c.1 ps) cs first ∙ holds_all c.0 c.1 ps first

-- the pieces hold all places in order, whatever was covered
pub follow_from-pieces_after : (covers : List Cover) → follow_from 1 (ranges_of (pieces_after covers)) ≡ true
follow_from-pieces_after covers = follow_from-pieces_from uncovered covers 1

one_tag : (c : Cover) (i : ℕ) → map (λ (cover : Cover). cover.1) (filter (λ (cover : Cover). holds cover.0 i) (c ∷ [])) ≡ cond (holds c.0 i) (c.1 ∷ []) []
one_tag c i =
    elim (holds c.0 i) as (λ b. map (λ (cover : Cover). cover.1) (cond b (c ∷ []) []) ≡ cond b (c.1 ∷ []) []) [ true ↦ refl | false ↦ refl ]

tags_of-cons : (c : Cover) (cs : List Cover) (i : ℕ) → tags_of (c ∷ cs) i ≡ tags_of cs i ++ cond (holds c.0 i) (c.1 ∷ []) []
tags_of-cons c cs i =
    ap (λ (l : List Cover). map (λ (cover : Cover). cover.1) (filter (λ (cover : Cover). holds cover.0 i) l)) (reverse-cons c cs)
    ∙ ap (λ (l : List Cover). map (λ (cover : Cover). cover.1) l) (filter-append (λ (cover : Cover). holds cover.0 i) (reverse cs) (c ∷ []))
    ∙ map-append (λ (cover : Cover). cover.1) (filter (λ (cover : Cover). holds cover.0 i) (reverse cs)) (filter (λ (cover : Cover). holds cover.0 i) (c ∷ []))
    ∙ ap (λ l. tags_of cs i ++ l) (one_tag c i)

one_more : (b : Bool) (tag : ℕ) (newer older : List ℕ) → newer ++ cond b (tag ∷ older) older ≡ (newer ++ cond b (tag ∷ []) []) ++ older
one_more true tag newer older = sym (append_assoc newer (tag ∷ []) older)
one_more false tag newer older = ap (λ l. l ++ older) (sym (append-nil newer))

tags_at-pieces_from : (ps : List Piece) (covers : List Cover) (i : ℕ) → follow_from 1 (ranges_of ps) ≡ true → 1 ≤ i → i ≤ MOST_PLACES → tags_at (pieces_from ps covers) i ≡ tags_of covers i ++ tags_at ps i
tags_at-pieces_from ps [] i all low high = refl
tags_at-pieces_from ps (c ∷ cs) i all low high =
    tags_at-pieces_from (covered c.0 c.1 ps) cs i (holds_all c.0 c.1 ps 1 ∙ all) low high
    ∙ ap (λ l. tags_of cs i ++ l) (tags_at-covered c.0 c.1 ps all i low high)
    ∙ one_more (holds c.0 i) c.1 (tags_of cs i) (tags_at ps i)
    ∙ ap (λ l. l ++ tags_at ps i) (sym (tags_of-cons c cs i))

either_way : (b : Bool) (tags : List ℕ) → cond b tags tags ≡ tags
either_way true tags = refl
either_way false tags = refl

-- a place has the tags of the covers that hold it, newest first
pub tags_at-pieces_after : (covers : List Cover) (i : ℕ) → 1 ≤ i → i ≤ MOST_PLACES → tags_at (pieces_after covers) i ≡ tags_of covers i
tags_at-pieces_after covers i low high =
    tags_at-pieces_from uncovered covers i refl low high
    ∙ ap (λ l. tags_of covers i ++ l) (either_way (nat_le 1 i && nat_le i MOST_PLACES) [])
    ∙ append-nil (tags_of covers i)

begin_at-pieces_from : (ps : List Piece) (covers : List Cover) (i : ℕ) → follow_from 1 (ranges_of ps) ≡ true → 1 ≤ i → i ≤ MOST_PLACES → begin_at (ranges_of (pieces_from ps covers)) i ≡ (begin_at (ranges_of ps) i || is_cut covers i)
begin_at-pieces_from ps [] i all low high = sym (or-false (begin_at (ranges_of ps) i))
begin_at-pieces_from ps (c ∷ cs) i all low high =
    begin_at-pieces_from (covered c.0 c.1 ps) cs i (holds_all c.0 c.1 ps 1 ∙ all) low high
    ∙ ap (λ b. b || is_cut cs i) (begin_at-covered c.0 c.1 ps all i low high)
    ∙ or_assoc (begin_at (ranges_of ps) i) ((c.0.from == i) || (c.0.to + 1 == i)) (is_cut cs i)

pub tags_at-place : (covers : List Cover) (i : ℕ) → is_place i ≡ true → tags_at (pieces_after covers) i ≡ tags_of covers i
tags_at-place covers i h =
    tags_at-pieces_after covers i (leb-true 1 i (first_so (nat_le 1 i) (nat_le i MOST_PLACES) h)) (leb-true i MOST_PLACES (second_so (nat_le 1 i) (nat_le i MOST_PLACES) h))

-- past the first place, a piece begins at each cut and nowhere else
pub begin_at-pieces_after : (covers : List Cover) (i : ℕ) → 1 < i → i ≤ MOST_PLACES → begin_at (ranges_of (pieces_after covers)) i ≡ is_cut covers i
begin_at-pieces_after covers i low high =
    begin_at-pieces_from uncovered covers i refl (omega arith) high
    ∙ ap (λ b. (b || false) || is_cut covers i) (same_false 1 i low)

-- ---- the places of one piece

pub record Stands (ps : List Piece) (first : ℕ) (p : Piece) : Type 0 where
  pub after : first ≤ p.range.from
  pub filled : p.range.from ≤ p.range.to
  pub tags : (i : ℕ) → holds p.range i ≡ true → tags_at ps i ≡ p.tags

later_piece : (q : Piece) (ps : List Piece) (first : ℕ) → first ≤ q.range.to → (xs : List Piece) → AllByRecursion (Stands ps (q.range.to + 1)) xs → AllByRecursion (Stands (q ∷ ps) first) xs
later_piece q ps first within [] all = tt
later_piece q ps first within (p ∷ xs) all = (
  record {
    after = omega (arith, all.0.after);
    filled = all.0.filled;
    tags = λ i here.
        let past : nat_le i q.range.to ≡ false = lt-leb i q.range.to (omega (arith, all.0.after, leb-true p.range.from i (first_so (nat_le p.range.from i) (nat_le i p.range.to) here))) in
        ap (λ b. cond (nat_le q.range.from i && b) q.tags (tags_at ps i)) past
        ∙ ap (λ b. cond b q.tags (tags_at ps i)) (and-false (nat_le q.range.from i))
        ∙ all.0.tags i here;
  },
  later_piece q ps first within xs all.1,
)

stand : (first : ℕ) (ps : List Piece) → follow_from first (ranges_of ps) ≡ true → AllByRecursion (Stands ps first) ps
stand first [] all = tt
stand first (q ∷ ps) all =
    let f = follows first q.range (ranges_of ps) all in (
      record {
        after = omega (arith, f.begins);
        filled = omega (arith, f.begins, f.within);
        tags = λ i here. ap (λ b. cond b q.tags (tags_at ps i)) here;
      },
      later_piece q ps first f.within ps (stand (q.range.to + 1) ps f.rest),
    )

alike_each : (ps : List Piece) (first : ℕ) (xs : List Piece) → AllByRecursion (Stands ps first) xs → AllByRecursion (AreAlike ps) (ranges_of xs)
alike_each ps first [] all = tt
alike_each ps first (p ∷ xs) all = (
  λ i here. all.0.tags i here ∙ sym (all.0.tags p.range.from (and_from (nat_le p.range.from p.range.from) (nat_le p.range.from p.range.to) (le-leb p.range.from p.range.from (omega arith)) (le-leb p.range.from p.range.to all.0.filled))),
  alike_each ps first xs all.1,
)

-- the places of a piece have the same tags
pub alike : (ps : List Piece) → follow_from 1 (ranges_of ps) ≡ true → All (AreAlike ps) (ranges_of ps)
alike ps all = All-from_recursion (AreAlike ps) (ranges_of ps) (alike_each ps 1 ps (stand 1 ps all))

-- ---- the newest tag that passes a test

pub find-tags : (p : ℕ → Bool) (h : Cover → Bool) (cs : List Cover) → find p (map (λ (cover : Cover). cover.1) (filter h cs)) ≡ option_map (λ (cover : Cover). cover.1) (find (λ cover. h cover && p cover.1) cs)
find-tags p h [] = refl
find-tags p h (c ∷ cs) =
    elim (h c) as (λ b. find p (map (λ (cover : Cover). cover.1) (cond b (c ∷ filter h cs) (filter h cs))) ≡ option_map (λ (cover : Cover). cover.1) (cond (b && p c.1) (Some c) (find (λ cover. h cover && p cover.1) cs))) [
      | true ↦ elim (p c.1) as (λ d. cond d (Some c.1) (find p (map (λ (cover : Cover). cover.1) (filter h cs))) ≡ option_map (λ (cover : Cover). cover.1) (cond d (Some c) (find (λ cover. h cover && p cover.1) cs))) [ true ↦ refl | false ↦ find-tags p h cs ]
      | false ↦ find-tags p h cs
    ]

-- the newest tag of a place that passes a test is that of the newest cover that holds it and passes
pub find-tags_at : (p : ℕ → Bool) (covers : List Cover) (i : ℕ) → 1 ≤ i → i ≤ MOST_PLACES → find p (tags_at (pieces_after covers) i) ≡ newest_of p covers i
find-tags_at p covers i low high = ap (find p) (tags_at-pieces_after covers i low high) ∙ find-tags p (λ cover. holds cover.0 i) (reverse covers)

pub find-tags_at_place : (p : ℕ → Bool) (covers : List Cover) (i : ℕ) → is_place i ≡ true → find p (tags_at (pieces_after covers) i) ≡ newest_of p covers i
find-tags_at_place p covers i h =
    find-tags_at p covers i (leb-true 1 i (first_so (nat_le 1 i) (nat_le i MOST_PLACES) h)) (leb-true i MOST_PLACES (second_so (nat_le 1 i) (nat_le i MOST_PLACES) h))

-- places before the pieces have no tags
pub no_piece : (first : ℕ) (ps : List Piece) (i : ℕ) → follow_from first (ranges_of ps) ≡ true → i < first → tags_at ps i ≡ []
no_piece first [] i all low = refl
no_piece first (p ∷ ps) i all low =
    let f = follows first p.range (ranges_of ps) all in
    let past : nat_le p.range.from i ≡ false = lt-leb p.range.from i (omega (arith, f.begins)) in
    ap (λ b. cond (b && nat_le i p.range.to) p.tags (tags_at ps i)) past ∙ no_piece (p.range.to + 1) ps i f.rest (omega (arith, f.within))

-- ranges that hold all places in order begin at a place, or right after the last
pub follow_from-bound : (first : ℕ) (rs : List Places) → follow_from first rs ≡ true → first ≤ MOST_PLACES + 1
follow_from-bound first [] all = omega (arith, eqb-true first (MOST_PLACES + 1) all)
follow_from-bound first (r ∷ rs) all = let f = follows first r rs all in omega (arith, f.within, follow_from-bound (r.to + 1) rs f.rest)

-- nor have numbers past the last place
pub above_all : (first : ℕ) (ps : List Piece) (i : ℕ) → follow_from first (ranges_of ps) ≡ true → MOST_PLACES < i → tags_at ps i ≡ []
above_all first [] i all high = refl
above_all first (p ∷ ps) i all high =
    let f = follows first p.range (ranges_of ps) all in
    let past : nat_le i p.range.to ≡ false = lt-leb i p.range.to (omega (arith, follow_from-bound (p.range.to + 1) (ranges_of ps) f.rest)) in
    ap (λ b. cond (nat_le p.range.from i && b) p.tags (tags_at ps i)) past
    ∙ ap (λ b. cond b p.tags (tags_at ps i)) (and-false (nat_le p.range.from i))
    ∙ above_all (p.range.to + 1) ps i f.rest high

-- what is no place has no tags
pub find-below : (p : ℕ → Bool) (covers : List Cover) (i : ℕ) → i < 1 → find p (tags_at (pieces_after covers) i) ≡ None
find-below p covers i low = ap (find p) (no_piece 1 (pieces_after covers) i (follow_from-pieces_after covers) low)

pub find-above : (p : ℕ → Bool) (covers : List Cover) (i : ℕ) → MOST_PLACES < i → find p (tags_at (pieces_after covers) i) ≡ None
find-above p covers i high = ap (find p) (above_all 1 (pieces_after covers) i (follow_from-pieces_after covers) high)

-- the newest tag that passes a test, at any number
pub ruleset newest_tags = (find-tags_at, find-below, find-above)
