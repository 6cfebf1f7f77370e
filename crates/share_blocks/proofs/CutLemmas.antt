-- What a cut and a cover leave of pieces.
use Rattle.std.proofs.Common.{◌≡◌, ℕ, ◌+◌, ◌-◌, ◌≤◌, Bool, true, false, ◌&&◌, ◌||◌, cond, List, [], ◌∷◌, ◌++◌, map, refl, ap, sym, ◌∙◌, arith, true≢false}
use Rattle.std.specs.Prelude.{nat_le, nat_lt, ◌==◌}
use Rattle.std.specs.List.{list_any}
use Rattle.std.proofs.lemmas.Bool.Decides.{nat_tests}
use Rattle.vocabulary.specs.declared.range.TheConstants.{MOST_PLACES}
use Rattle.seq.proofs.Booleans.{choose_either, neither_first, neither_second}
use Rattle.std.proofs.Math.Bool.{or-true, or_assoc}
use Rattle.std.proofs.lemmas.Bool.{eqb-true, le-leb, leb-false, leb-true, or_from}
use Rattle.std.specs.Cmp.{first_so, second_so}
use Rattle.desk_words.specs.Places.{Places, holds}
use Rattle.share_blocks.specs.Pieces.{Piece, ranges_of, tags_at, straddles, split_at, cut_at, tagged, covered, follow_from, begin_at}

-- whether a piece holds a place and the one before it
abbrev astride : ℕ → Piece → Bool
astride x piece = straddles x piece.range

-- ---- the places of a piece that is cut

same_holds : (f t x i : ℕ) → (nat_lt f x && nat_le x t) ≡ true → ((nat_le f i && nat_le i (x - 1)) || (nat_le x i && nat_le i t)) ≡ (nat_le f i && nat_le i t)
same_holds f t x i h = grind (arith, nat_tests)

halves_follow : (f t x first : ℕ) (rest : Bool) → (nat_lt f x && nat_le x t) ≡ true
    → ((f == first) && nat_le first (x - 1) && ((x == x - 1 + 1) && nat_le (x - 1 + 1) t && rest)) ≡ ((f == first) && nat_le first t && rest)
halves_follow f t x first rest h = grind (arith, nat_tests)

first_half : (f x : ℕ) → (nat_lt f x && nat_le x (x - 1)) ≡ false
first_half f x = grind (arith, nat_tests)

second_half : (x t : ℕ) → (nat_lt x x && nat_le x t) ≡ false
second_half x t = grind (arith, nat_tests)

first_part : (f t x y : ℕ) → (nat_lt f y && nat_le y t) ≡ true → (nat_lt f x && nat_le x t) ≡ false → (nat_lt f x && nat_le x (y - 1)) ≡ false
first_part f t x y h k = grind (arith, nat_tests)

second_part : (f t x y : ℕ) → (nat_lt f y && nat_le y t) ≡ true → (nat_lt f x && nat_le x t) ≡ false → (nat_lt y x && nat_le x t) ≡ false
second_part f t x y h k = grind (arith, nat_tests)

-- ---- a cut

-- each place keeps its tags
tags_at-cut_at : (x : ℕ) (ps : List Piece) (i : ℕ) → tags_at (cut_at x ps) i ≡ tags_at ps i
tags_at-cut_at x [] i = refl
tags_at-cut_at x (p ∷ ps) i =
    (elim (straddles x p.range) as (λ b. straddles x p.range ≡ b → tags_at (cond b (split_at x p) (p ∷ []) ++ cut_at x ps) i ≡ cond (holds p.range i) p.tags (tags_at ps i)) [
      | true ↦ λ h.
          choose_either (nat_le p.range.from i && nat_le i (x - 1)) (nat_le x i && nat_le i p.range.to) p.tags (tags_at (cut_at x ps) i)
          ∙ ap (λ b. cond b p.tags (tags_at (cut_at x ps) i)) (same_holds p.range.from p.range.to x i h)
          ∙ ap (cond (holds p.range i) p.tags) (tags_at-cut_at x ps i)
      | false ↦ λ h. ap (cond (holds p.range i) p.tags) (tags_at-cut_at x ps i)
    ]) refl

-- the pieces hold the same places in order
pub follow_from-cut_at : (x : ℕ) (ps : List Piece) (first : ℕ) → follow_from first (ranges_of (cut_at x ps)) ≡ follow_from first (ranges_of ps)
follow_from-cut_at x [] first = refl
follow_from-cut_at x (p ∷ ps) first =
    (elim (straddles x p.range) as (λ b. straddles x p.range ≡ b → follow_from first (ranges_of (cond b (split_at x p) (p ∷ []) ++ cut_at x ps)) ≡ follow_from first (ranges_of (p ∷ ps))) [
      | true ↦ λ h.
          halves_follow p.range.from p.range.to x first (follow_from (p.range.to + 1) (ranges_of (cut_at x ps))) h
          ∙ ap (λ b. (p.range.from == first) && nat_le first p.range.to && b) (follow_from-cut_at x ps (p.range.to + 1))
      | false ↦ λ h. ap (λ b. (p.range.from == first) && nat_le first p.range.to && b) (follow_from-cut_at x ps (p.range.to + 1))
    ]) refl

one_begins : (a b c s : Bool) → (a || (b || (c || (b && s)))) ≡ ((a || c) || (b && true))
one_begins true b c s = refl
one_begins false true true s = refl
one_begins false true false s = refl
one_begins false false c s = refl

none_begins : (a b c s : Bool) → (a || (c || (b && s))) ≡ ((a || c) || (b && (false || s)))
none_begins true b c s = refl
none_begins false b c s = refl

-- a piece begins where one did, and at the place if a piece held it with the one before it
begin_at-cut_piece : (x : ℕ) (ps : List Piece) (q : ℕ) → begin_at (ranges_of (cut_at x ps)) q ≡ (begin_at (ranges_of ps) q || ((x == q) && list_any (astride x) ps))
begin_at-cut_piece x [] q = elim (x == q) as (λ b. false ≡ (b && false)) [ true ↦ refl | false ↦ refl ]
begin_at-cut_piece x (p ∷ ps) q =
    (elim (straddles x p.range) as (λ b. straddles x p.range ≡ b → begin_at (ranges_of (cond b (split_at x p) (p ∷ []) ++ cut_at x ps)) q ≡ (begin_at (ranges_of (p ∷ ps)) q || ((x == q) && (b || list_any (astride x) ps)))) [
      | true ↦ λ h.
          ap (λ b. (p.range.from == q) || ((x == q) || b)) (begin_at-cut_piece x ps q)
          ∙ one_begins (p.range.from == q) (x == q) (begin_at (ranges_of ps) q) (list_any (astride x) ps)
      | false ↦ λ h.
          ap (λ b. (p.range.from == q) || b) (begin_at-cut_piece x ps q)
          ∙ none_begins (p.range.from == q) (x == q) (begin_at (ranges_of ps) q) (list_any (astride x) ps)
    ]) refl

-- no piece is left that holds the place and the one before it
list_any-cut_at_there : (x : ℕ) (ps : List Piece) → list_any (astride x) (cut_at x ps) ≡ false
list_any-cut_at_there x [] = refl
list_any-cut_at_there x (p ∷ ps) =
    (elim (straddles x p.range) as (λ b. straddles x p.range ≡ b → list_any (astride x) (cond b (split_at x p) (p ∷ []) ++ cut_at x ps) ≡ false) [
      | true ↦ λ h. or_from _ _ (first_half p.range.from x) (or_from _ _ (second_half x p.range.to) (list_any-cut_at_there x ps))
      | false ↦ λ h. or_from _ _ h (list_any-cut_at_there x ps)
    ]) refl

-- nor does a further cut make one
list_any-cut_at : (x y : ℕ) (ps : List Piece) → list_any (astride x) ps ≡ false → list_any (astride x) (cut_at y ps) ≡ false
list_any-cut_at x y [] none = refl
list_any-cut_at x y (p ∷ ps) none =
    let here = neither_first (straddles x p.range) (list_any (astride x) ps) none in
    let later = list_any-cut_at x y ps (neither_second (straddles x p.range) (list_any (astride x) ps) none) in
    (elim (straddles y p.range) as (λ b. straddles y p.range ≡ b → list_any (astride x) (cond b (split_at y p) (p ∷ []) ++ cut_at y ps) ≡ false) [
      | true ↦ λ h. or_from _ _ (first_part p.range.from p.range.to x y h here) (or_from _ _ (second_part p.range.from p.range.to x y h here) later)
      | false ↦ λ h. or_from _ _ here later
    ]) refl

-- ---- pieces that hold all places in order

-- some piece holds the place
abbrev held : List Piece → ℕ → Bool
held ps x = list_any (λ (p : Piece). holds p.range x) ps

pub record Follows (first : ℕ) (range : Places) (ranges : List Places) : Type 0 where
  pub begins : range.from ≡ first
  pub within : first ≤ range.to
  pub rest : follow_from (range.to + 1) ranges ≡ true

pub follows : (first : ℕ) (range : Places) (ranges : List Places) → follow_from first (range ∷ ranges) ≡ true → Follows first range ranges
follows first range ranges h =
    let front = first_so ((range.from == first) && nat_le first range.to) (follow_from (range.to + 1) ranges) h in
    record {
      begins = eqb-true range.from first (first_so (range.from == first) (nat_le first range.to) front);
      within = leb-true first range.to (second_so (range.from == first) (nat_le first range.to) front);
      rest = second_so ((range.from == first) && nat_le first range.to) (follow_from (range.to + 1) ranges) h;
    }

-- each place from the first on is held
pub held_from : (first : ℕ) (ps : List Piece) (x : ℕ) → follow_from first (ranges_of ps) ≡ true → first ≤ x → x ≤ MOST_PLACES → held ps x ≡ true
held_from first [] x all low high = let e : first ≡ MOST_PLACES + 1 = eqb-true first (MOST_PLACES + 1) all in absurd (omega arith)
held_from first (p ∷ ps) x all low high =
    let f = follows first p.range (ranges_of ps) all in
    (elim (nat_le x p.range.to) as (λ b. nat_le x p.range.to ≡ b → ((nat_le p.range.from x && b) || held ps x) ≡ true) [
      | true ↦ λ h. let lower : nat_le p.range.from x ≡ true = le-leb p.range.from x (omega (arith, f.begins)) in ap (λ b. (b && true) || held ps x) lower
      | false ↦ λ h.
          let later = held_from (p.range.to + 1) ps x f.rest (omega (arith, leb-false x p.range.to h)) high in
          ap (λ b. (nat_le p.range.from x && false) || b) later ∙ or-true (nat_le p.range.from x && false)
    ]) refl

holds_split : (f t q : ℕ) → (nat_le f q && nat_le q t) ≡ true → ((f == q) || (nat_lt f q && nat_le q t)) ≡ true
holds_split f t q h = grind (arith, nat_tests)

one_here : (a s b t : Bool) → (a || s) ≡ true → ((a || b) || (s || t)) ≡ true
one_here true s b t h = refl
one_here false s true t h = refl
one_here false true false t h = refl
one_here false false false t h = absurd (true≢false (sym h))

one_later : (a s b t : Bool) → (b || t) ≡ true → ((a || b) || (s || t)) ≡ true
one_later true s b t h = refl
one_later false s true t h = refl
one_later false true false t h = refl
one_later false false false t h = h

-- a place that is held is where a piece begins, or it is held with the one before it
begins_or_astride : (ps : List Piece) (q : ℕ) → held ps q ≡ true → (begin_at (ranges_of ps) q || list_any (astride q) ps) ≡ true
begins_or_astride [] q h = absurd (true≢false (sym h))
begins_or_astride (p ∷ ps) q h =
    (elim (holds p.range q) as (λ b. holds p.range q ≡ b → (b || held ps q) ≡ true → (begin_at (ranges_of (p ∷ ps)) q || list_any (astride q) (p ∷ ps)) ≡ true) [
      | true ↦ λ here _. one_here (p.range.from == q) (straddles q p.range) (begin_at (ranges_of ps) q) (list_any (astride q) ps) (holds_split p.range.from p.range.to q here)
      | false ↦ λ _ later. one_later (p.range.from == q) (straddles q p.range) (begin_at (ranges_of ps) q) (list_any (astride q) ps) (begins_or_astride ps q later)
    ]) refl h

-- a cut makes a piece begin at the place, and at no other
begin_at-cut_at : (x : ℕ) (ps : List Piece) (q : ℕ) → held ps q ≡ true → begin_at (ranges_of (cut_at x ps)) q ≡ (begin_at (ranges_of ps) q || (x == q))
begin_at-cut_at x ps q h =
    begin_at-cut_piece x ps q
    ∙ (elim (x == q) as (λ b. (x == q) ≡ b → (begin_at (ranges_of ps) q || (b && list_any (astride x) ps)) ≡ (begin_at (ranges_of ps) q || b)) [
      | true ↦ λ e.
          ap (λ y. begin_at (ranges_of ps) q || list_any (astride y) ps) (eqb-true x q e)
          ∙ begins_or_astride ps q h
          ∙ sym (or-true (begin_at (ranges_of ps) q))
      | false ↦ λ e. refl
    ]) refl

-- ---- a cover

ranges_of-tagged : (range : Places) (tag : ℕ) (ps : List Piece) → ranges_of (map (tagged range tag) ps) ≡ ranges_of ps
ranges_of-tagged range tag [] = refl
ranges_of-tagged range tag (p ∷ ps) = ap (λ rs. p.range ∷ rs) (ranges_of-tagged range tag ps)

same_side : (rf rt f t i : ℕ) → (nat_lt f rf && nat_le rf t) ≡ false → (nat_lt f (rt + 1) && nat_le (rt + 1) t) ≡ false → (nat_le f i && nat_le i t) ≡ true
    → (nat_le rf f && nat_le f rt) ≡ (nat_le rf i && nat_le i rt)
same_side rf rt f t i h k here = grind (arith, nat_tests)

-- the places of the range get the tag, where no piece lies on both sides of an end
tags_at-tagged : (range : Places) (tag : ℕ) (ps : List Piece) (i : ℕ) → list_any (astride range.from) ps ≡ false → list_any (astride (range.to + 1)) ps ≡ false → held ps i ≡ true
    → tags_at (map (tagged range tag) ps) i ≡ cond (holds range i) (tag ∷ tags_at ps i) (tags_at ps i)
tags_at-tagged range tag [] i low high h = absurd (true≢false (sym h))
tags_at-tagged range tag (p ∷ ps) i low high h =
    (elim (holds p.range i) as (λ b. holds p.range i ≡ b → (b || held ps i) ≡ true
    → cond b (cond (holds range p.range.from) (tag ∷ p.tags) p.tags) (tags_at (map (tagged range tag) ps) i)
    ≡ cond (holds range i) (tag ∷ cond b p.tags (tags_at ps i)) (cond b p.tags (tags_at ps i))) [
      | true ↦ λ here _.
          ap (λ b. cond b (tag ∷ p.tags) p.tags)
          (same_side range.from range.to p.range.from p.range.to i (neither_first (astride range.from p) (list_any (astride range.from) ps) low) (neither_first (astride (range.to + 1) p) (list_any (astride (range.to + 1)) ps) high) here)
      | false ↦ λ _ later.
          tags_at-tagged range tag ps i
          (neither_second (astride range.from p) (list_any (astride range.from) ps) low) (neither_second (astride (range.to + 1) p) (list_any (astride (range.to + 1)) ps) high) later
    ]) refl h

-- pieces that hold all places in order
pub holds_all : (range : Places) (tag : ℕ) (ps : List Piece) (first : ℕ) → follow_from first (ranges_of (covered range tag ps)) ≡ follow_from first (ranges_of ps)
holds_all range tag ps first =
    ap (follow_from first) (ranges_of-tagged range tag (cut_at (range.to + 1) (cut_at range.from ps)))
    ∙ follow_from-cut_at (range.to + 1) (cut_at range.from ps) first
    ∙ follow_from-cut_at range.from ps first

module _ (range : Places) (tag : ℕ) (ps : List Piece) (all : follow_from 1 (ranges_of ps) ≡ true) (i : ℕ) (low : 1 ≤ i) (high : i ≤ MOST_PLACES) where
  once : held (cut_at range.from ps) i ≡ true
  once = held_from 1 (cut_at range.from ps) i (follow_from-cut_at range.from ps 1 ∙ all) low high

  twice : held (cut_at (range.to + 1) (cut_at range.from ps)) i ≡ true
  twice = held_from 1 (cut_at (range.to + 1) (cut_at range.from ps)) i (follow_from-cut_at (range.to + 1) (cut_at range.from ps) 1 ∙ follow_from-cut_at range.from ps 1 ∙ all) low high

  -- a place of the range has the tag in front of its tags, and another keeps its tags
  pub tags_at-covered : tags_at (covered range tag ps) i ≡ cond (holds range i) (tag ∷ tags_at ps i) (tags_at ps i)
  tags_at-covered =
      tags_at-tagged range tag (cut_at (range.to + 1) (cut_at range.from ps)) i
      (list_any-cut_at range.from (range.to + 1) (cut_at range.from ps) (list_any-cut_at_there range.from ps))
      (list_any-cut_at_there (range.to + 1) (cut_at range.from ps))
      twice
      ∙ ap (λ tags. cond (holds range i) (tag ∷ tags) tags) (tags_at-cut_at (range.to + 1) (cut_at range.from ps) i ∙ tags_at-cut_at range.from ps i)

  -- a piece begins where one did, where the range begins and where it has ended
  pub begin_at-covered : begin_at (ranges_of (covered range tag ps)) i ≡ (begin_at (ranges_of ps) i || ((range.from == i) || (range.to + 1 == i)))
  begin_at-covered =
      ap (λ rs. begin_at rs i) (ranges_of-tagged range tag (cut_at (range.to + 1) (cut_at range.from ps)))
      ∙ begin_at-cut_at (range.to + 1) (cut_at range.from ps) i once
      ∙ ap (λ b. b || (range.to + 1 == i)) (begin_at-cut_at range.from ps i (held_from 1 ps i all low high))
      ∙ or_assoc (begin_at (ranges_of ps) i) (range.from == i) (range.to + 1 == i)
