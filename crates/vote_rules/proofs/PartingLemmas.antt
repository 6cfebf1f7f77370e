-- Ranges that no cover cuts.
use Rattle.std.proofs.Common.{◌≡◌, ℕ, zero, suc, ◌+◌, ◌<◌, ◌≤◌, min, Bool, true, false, ◌&&◌, ◌||◌, cond, List, [], ◌∷◌, refl, sym, ap, ◌∙◌, arith, inl, inr}
use Rattle.std.specs.Prelude.{nat_le, ◌==◌, All, Some, None}
use Rattle.std.specs.List.{AllByRecursion, cons_option, filter_map}
use Rattle.std.proofs.lemmas.Bool.{cases_lt, and_from, le-leb, leb-true, or_from}
use Rattle.std.proofs.lemmas.Bool.Decides.{nat_tests}
use Rattle.std.proofs.lemmas.List.Elements.{All-cons, All-from_recursion, All-head, All-nil, All-tail}
use Rattle.vocabulary.specs.declared.range.TheConstants.{MOST_PLACES}
use Rattle.seq.proofs.Booleans.{neither_first, neither_second, same_false}
use Rattle.std.specs.Cmp.{first_so, second_so}
use Rattle.vocabulary.specs.Places.{Places, holds, is_range}
use Rattle.proxy_rules.specs.Tagging.{held_of}
use Rattle.share_blocks.specs.Covers.{Cover, is_cut, pieces_after}
use Rattle.share_blocks.specs.Pieces.{begin_at, follow_from, ranges_of}
use Rattle.share_blocks.proofs.CutLemmas.{follows}
use Rattle.share_blocks.proofs.BlockCoverLemmas.{begin_at-pieces_after, follow_from-bound, follow_from-pieces_after}
use Rattle.vote_rules.specs.Ballots.{IsUncut}

-- ---- inside of a range none begins

-- ranges that follow one another from a place on begin at none before it
begin_late : (first : ℕ) (ranges : List Places) (place : ℕ) → follow_from first ranges ≡ true → place < first → begin_at ranges place ≡ false
begin_late first [] place all less = refl
begin_late first (range ∷ ranges) place all less =
    let f = follows first range ranges all in
    or_from (range.from == place) (begin_at ranges place) (grind (arith, nat_tests, f.begins)) (begin_late (range.to + 1) ranges place f.rest (omega (arith, f.within)))

pub record IsInner (first : ℕ) (all : List Places) (range : Places) : Type 0 where
  pub after : first ≤ range.from
  pub high : range.to ≤ MOST_PLACES
  pub none : (place : ℕ) → range.from < place → place ≤ range.to → begin_at all place ≡ false

later : (first next : ℕ) (range : Places) (ranges : List Places) → range.from ≡ first → first < next → (xs : List Places) → AllByRecursion (IsInner next ranges) xs → AllByRecursion (IsInner first (range ∷ ranges)) xs
later first next range ranges begins less [] all = tt
later first next range ranges begins less (x ∷ xs) all = (
  record {
    after = omega (arith, all.0.after);
    high = all.0.high;
    none = λ place low up. or_from (range.from == place) (begin_at ranges place) (same_false range.from place (omega (arith, all.0.after))) (all.0.none place low up);
  },
  later first next range ranges begins less xs all.1,
)

inner : (first : ℕ) (ranges : List Places) → follow_from first ranges ≡ true → AllByRecursion (IsInner first ranges) ranges
inner first [] all = tt
inner first (range ∷ ranges) all =
    let f = follows first range ranges all in
    let bound : range.to + 1 ≤ MOST_PLACES + 1 = follow_from-bound (range.to + 1) ranges f.rest in (
      record {
        after = omega (arith, f.begins);
        high = omega (arith, bound);
        none = λ place low up. or_from (range.from == place) (begin_at ranges place) (same_false range.from place low) (begin_late (range.to + 1) ranges place f.rest (omega arith));
      },
      later first (range.to + 1) range ranges f.begins (omega (arith, f.within)) ranges (inner (range.to + 1) ranges f.rest),
    )

-- ---- a range that is not cut

-- where no cover begins or has just ended, each holds the place as it holds the one before
same_before : (from to place : ℕ) → (from == suc place) ≡ false → (to + 1 == suc place) ≡ false → (nat_le from (suc place) && nat_le (suc place) to) ≡ (nat_le from place && nat_le place to)
same_before from to place begins ends = grind (arith, nat_tests)

one_alike : (cover : Cover) (from place : ℕ) → from ≤ place → ((p : ℕ) → from < p → p ≤ place → ((cover.0.from == p) || (cover.0.to + 1 == p)) ≡ false) → holds cover.0 place ≡ holds cover.0 from
one_alike cover from zero up none = let e : zero ≡ from = omega arith in ap (holds cover.0) e
one_alike cover from (suc place) up none = elim (cases_lt place from) [
  | inl less ↦ let e : suc place ≡ from = omega arith in ap (holds cover.0) e
  | inr more ↦
      let here = none (suc place) (omega arith) (omega arith) in
      same_before cover.0.from cover.0.to place (neither_first (cover.0.from == suc place) (cover.0.to + 1 == suc place) here) (neither_second (cover.0.from == suc place) (cover.0.to + 1 == suc place) here)
      ∙ one_alike cover from place more (λ p low high. none p low (omega arith))
]

all_alike : (covers : List Cover) (from place : ℕ) → from ≤ place → ((p : ℕ) → from < p → p ≤ place → is_cut covers p ≡ false) → All (λ (cover : Cover). holds cover.0 place ≡ holds cover.0 from) covers
all_alike [] from place up none = All-nil (λ (cover : Cover). holds cover.0 place ≡ holds cover.0 from)
all_alike (cover ∷ covers) from place up none =
    All-cons (λ (c : Cover). holds c.0 place ≡ holds c.0 from) cover covers
    (one_alike cover from place up (λ p low high. neither_first ((cover.0.from == p) || (cover.0.to + 1 == p)) (is_cut covers p) (none p low high)))
    (all_alike covers from place up (λ p low high. neither_second ((cover.0.from == p) || (cover.0.to + 1 == p)) (is_cut covers p) (none p low high)))

uncut_each : (covers : List Cover) (xs : List Places) → AllByRecursion (IsInner 1 (ranges_of (pieces_after covers))) xs → AllByRecursion (IsUncut covers) xs
uncut_each covers [] all = tt
uncut_each covers (x ∷ xs) all = (
  λ place held.
      all_alike covers x.from place (leb-true x.from place (first_so (nat_le x.from place) (nat_le place x.to) held))
      (λ p low high.
      let below : place ≤ x.to = leb-true place x.to (second_so (nat_le x.from place) (nat_le place x.to) held) in
      sym (begin_at-pieces_after covers p (omega (arith, all.0.after)) (omega (arith, all.0.high, below)))
      ∙ all.0.none p low (omega (arith, below))),
  uncut_each covers xs all.1,
)

-- the pieces that covers leave are not cut by them
pub pieces_are_uncut : (covers : List Cover) → All (IsUncut covers) (ranges_of (pieces_after covers))
pieces_are_uncut covers =
    let ranges = ranges_of (pieces_after covers) in
    All-from_recursion (IsUncut covers) ranges (uncut_each covers ranges (inner 1 ranges (follow_from-pieces_after covers)))

-- ---- nor is what a holding has of them

held_cases : (covers : List Cover) (shares : ℕ) (range : Places) (held : List Places) → IsUncut covers range → All (IsUncut covers) held → (b : Bool) → All (IsUncut covers) (cons_option (cond b (Some (record { from = range.from; to = min shares range.to })) None) held)
held_cases covers shares range held one rest true =
    All-cons (IsUncut covers) (record { from = range.from; to = min shares range.to }) held
    (λ place in_it. one place
    (and_from (nat_le range.from place) (nat_le place range.to)
    (first_so (nat_le range.from place) (nat_le place (min shares range.to)) in_it)
    (le-leb place range.to (let h : place ≤ min shares range.to = leb-true place (min shares range.to) (second_so (nat_le range.from place) (nat_le place (min shares range.to)) in_it) in omega (arith, h)))))
    rest
held_cases covers shares range held one rest false = rest

pub held_are_uncut : (covers : List Cover) (shares : ℕ) (ranges : List Places) → All (IsUncut covers) ranges → All (IsUncut covers) (filter_map (held_of shares) ranges)
held_are_uncut covers shares [] all = All-nil (IsUncut covers)
held_are_uncut covers shares (range ∷ ranges) all =
    held_cases covers shares range (filter_map (held_of shares) ranges) (All-head (IsUncut covers) range ranges all) (held_are_uncut covers shares ranges (All-tail (IsUncut covers) range ranges all))
    (is_range range.from (min shares range.to))
