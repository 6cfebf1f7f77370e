-- Ranges that hold all places in order are told apart by where they begin.
use Rattle.std.proofs.Common.{◌≡◌, ℕ, ◌+◌, ◌-◌, ◌<◌, ◌≤◌, Bool, true, false, ◌&&◌, ◌||◌, cond, List, [], ◌∷◌, ◌++◌, refl, ap, sym, ◌∙◌, arith, true≢false}
use Rattle.std.specs.Prelude.{nat_le, nat_lt, ◌==◌}
use Rattle.std.specs.List.{list_any, flat_map}
use Rattle.std.specs.Ordering.{is_lt, nat_cmp, eq_by_cmp}
use Rattle.std.specs.Set.{is_member}
use Rattle.std.proofs.lemmas.Bool.Decides.{nat_tests}
use Rattle.vocabulary.specs.declared.range.TheConstants.{MOST_PLACES}
use Rattle.seq.proofs.Booleans.{same_false, same_false_above}
use Rattle.std.proofs.Math.Bool.{and-false, or-true, or_assoc}
use Rattle.std.proofs.lemmas.Bool.{and_from, eq-eqb, eqb-true, le-leb, leb-true, lt-ltb, ltb-true}
use Rattle.std.specs.Cmp.{first_so, second_so}
use Rattle.desk_words.specs.Places.{Places}
use Rattle.seq.specs.Ordered.{ascends_by}
use Rattle.share_blocks.specs.Pieces.{follow_from, begin_at, ranges_of}
use Rattle.share_blocks.specs.Covers.{Cover, is_cut, pieces_after}
use Rattle.share_blocks.specs.Cuts.{is_inner, inner, ranges_between, rise_from}
use Rattle.share_blocks.proofs.CutLemmas.{follows}
use Rattle.share_blocks.proofs.BlockCoverLemmas.{follow_from-bound, follow_from-pieces_after, begin_at-pieces_after}

-- ---- where ranges begin

first_begins : (first : ℕ) (rs : List Places) → follow_from first rs ≡ true → first ≤ MOST_PLACES → begin_at rs first ≡ true
first_begins first [] all high = let e : first ≡ MOST_PLACES + 1 = eqb-true first (MOST_PLACES + 1) all in absurd (omega arith)
first_begins first (r ∷ rs) all high = ap (λ b. b || begin_at rs first) (eq-eqb r.from first (follows first r rs all).begins)

none_before : (first : ℕ) (rs : List Places) (q : ℕ) → follow_from first rs ≡ true → q < first → begin_at rs q ≡ false
none_before first [] q all low = refl
none_before first (r ∷ rs) q all low =
    let f = follows first r rs all in
    ap (λ b. b || begin_at rs q) (same_false_above r.from q (omega (arith, f.begins)))
    ∙ none_before (r.to + 1) rs q f.rest (omega (arith, f.within))

-- a range that ends sooner is followed by one that begins within the other
ends_sooner : (first : ℕ) (r : Places) (rs : List Places) (s : Places) (ss : List Places) → follow_from first (r ∷ rs) ≡ true → follow_from first (s ∷ ss) ≡ true
    → ((q : ℕ) → first < q → q ≤ MOST_PLACES → begin_at (r ∷ rs) q ≡ begin_at (s ∷ ss) q) → r.to < s.to → ⊥
ends_sooner first r rs s ss all all' same sooner =
    let f = follows first r rs all in
    let g = follows first s ss all' in
    let bound : s.to ≤ MOST_PLACES = omega (arith, follow_from-bound (s.to + 1) ss g.rest) in
    let here : begin_at (r ∷ rs) (r.to + 1) ≡ true =
    ap (λ b. b || begin_at rs (r.to + 1)) (same_false r.from (r.to + 1) (omega (arith, f.begins, f.within)))
    ∙ first_begins (r.to + 1) rs f.rest (omega arith) in
    let there : begin_at (s ∷ ss) (r.to + 1) ≡ false =
    ap (λ b. b || begin_at ss (r.to + 1)) (same_false s.from (r.to + 1) (omega (arith, g.begins, f.within)))
    ∙ none_before (s.to + 1) ss (r.to + 1) g.rest (omega arith) in
    true≢false (sym here ∙ same (r.to + 1) (omega (arith, f.within)) (omega arith) ∙ there)

same_places : (r s : Places) → r.from ≡ s.from → r.to ≡ s.to → r ≡ s
same_places r s from to = λ i. record { from = from i; to = to i }

-- ranges that hold the same places in order and begin at the same places are the same
pub same_ranges : (first : ℕ) (rs ss : List Places) → follow_from first rs ≡ true → follow_from first ss ≡ true
    → ((q : ℕ) → first < q → q ≤ MOST_PLACES → begin_at rs q ≡ begin_at ss q) → rs ≡ ss
same_ranges first [] [] all all' same = refl
same_ranges first [] (s ∷ ss) all all' same =
    let g = follows first s ss all' in
    let e : first ≡ MOST_PLACES + 1 = eqb-true first (MOST_PLACES + 1) all in
    absurd (omega (arith, g.within, follow_from-bound (s.to + 1) ss g.rest))
same_ranges first (r ∷ rs) [] all all' same =
    let f = follows first r rs all in
    let e : first ≡ MOST_PLACES + 1 = eqb-true first (MOST_PLACES + 1) all' in
    absurd (omega (arith, f.within, follow_from-bound (r.to + 1) rs f.rest))
same_ranges first (r ∷ rs) (s ∷ ss) all all' same =
    let f = follows first r rs all in
    let g = follows first s ss all' in
    let longer : r.to < s.to → ⊥ = ends_sooner first r rs s ss all all' same in
    let shorter : s.to < r.to → ⊥ = ends_sooner first s ss r rs all' all (λ q low high. sym (same q low high)) in
    let to : r.to ≡ s.to = same_end r.to s.to longer shorter in
    let from : r.from ≡ s.from = f.begins ∙ sym g.begins in
    let rest : follow_from (r.to + 1) ss ≡ true = ap (λ n. follow_from (n + 1) ss) to ∙ g.rest in
    let later : (q : ℕ) → r.to + 1 < q → q ≤ MOST_PLACES → begin_at rs q ≡ begin_at ss q =
    λ q low high.
    ap (λ b. b || begin_at rs q) (sym (same_false r.from q (omega (arith, f.begins, f.within))))
    ∙ same q (omega (arith, f.within)) high
    ∙ ap (λ b. b || begin_at ss q) (same_false s.from q (omega (arith, g.begins, f.within))) in
    ap (λ l. r ∷ l) (same_ranges (r.to + 1) rs ss f.rest rest later) ∙ ap (λ x. x ∷ ss) (same_places r s from to)
  where
    same_end : (a b : ℕ) → (a < b → ⊥) → (b < a → ⊥) → a ≡ b
    same_end a b h k = omega arith

-- ---- the ranges between cuts

pub record Rises (first cut : ℕ) (cuts : List ℕ) : Type 0 where
  pub after : first < cut
  pub place : cut ≤ MOST_PLACES
  pub rest : rise_from cut cuts ≡ true

pub rises : (first cut : ℕ) (cuts : List ℕ) → rise_from first (cut ∷ cuts) ≡ true → Rises first cut cuts
rises first cut cuts h =
    let front = first_so (nat_lt first cut && nat_le cut MOST_PLACES) (rise_from cut cuts) h in
    record {
      after = ltb-true first cut (first_so (nat_lt first cut) (nat_le cut MOST_PLACES) front);
      place = leb-true cut MOST_PLACES (second_so (nat_lt first cut) (nat_le cut MOST_PLACES) front);
      rest = second_so (nat_lt first cut && nat_le cut MOST_PLACES) (rise_from cut cuts) h;
    }

same_self : (a : ℕ) → (a == a) ≡ true
same_self a = grind (arith, nat_tests)

pub follow_from-ranges_between : (first : ℕ) (cuts : List ℕ) → rise_from first cuts ≡ true → first ≤ MOST_PLACES → follow_from first (ranges_between first cuts) ≡ true
follow_from-ranges_between first [] up high =
    and_from ((first == first) && nat_le first MOST_PLACES) (MOST_PLACES + 1 == MOST_PLACES + 1)
    (and_from (first == first) (nat_le first MOST_PLACES) (same_self first) (le-leb first MOST_PLACES high)) refl
follow_from-ranges_between first (cut ∷ cuts) up high =
    let r = rises first cut cuts up in
    let next : cut - 1 + 1 ≡ cut = omega (arith, r.after) in
    and_from ((first == first) && nat_le first (cut - 1)) (follow_from (cut - 1 + 1) (ranges_between cut cuts))
    (and_from (first == first) (nat_le first (cut - 1)) (same_self first) (le-leb first (cut - 1) (omega (arith, r.after))))
    (ap (λ n. follow_from n (ranges_between cut cuts)) next ∙ follow_from-ranges_between cut cuts r.rest r.place)

begin_at-ranges_between : (first : ℕ) (cuts : List ℕ) (q : ℕ) → begin_at (ranges_between first cuts) q ≡ ((first == q) || list_any (λ cut. cut == q) cuts)
begin_at-ranges_between first [] q = refl
begin_at-ranges_between first (cut ∷ cuts) q = ap (λ b. (first == q) || b) (begin_at-ranges_between cut cuts q)

-- the ranges between the cuts are those of the pieces
pub ranges_between-cuts : (covers : List Cover) (cuts : List ℕ) → rise_from 1 cuts ≡ true → ((place : ℕ) → list_any (λ cut. cut == place) cuts ≡ (is_inner place && is_cut covers place)) → ranges_between 1 cuts ≡ ranges_of (pieces_after covers)
ranges_between-cuts covers cuts up are =
    same_ranges 1 (ranges_between 1 cuts) (ranges_of (pieces_after covers))
    (follow_from-ranges_between 1 cuts up (omega arith)) (follow_from-pieces_after covers)
    (λ q low high.
    begin_at-ranges_between 1 cuts q
    ∙ ap (λ b. b || list_any (λ cut. cut == q) cuts) (same_false 1 q low)
    ∙ are q
    ∙ ap (λ b. b && is_cut covers q) (and_from (nat_lt 1 q) (nat_le q MOST_PLACES) (lt-ltb 1 q low) (le-leb q MOST_PLACES high))
    ∙ sym (begin_at-pieces_after covers q low high))

pub ruleset parted_at_cuts = (ranges_between-cuts)

-- ---- the cuts in order

-- where a cover parts the places
abbrev pub ends_of : Cover → List ℕ
ends_of cover = inner cover.0.from ++ inner (cover.0.to + 1)

-- whether a number is among others
abbrev pub is_among : List ℕ → ℕ → Bool
is_among xs q = list_any (λ x. x == q) xs

is_among-append : (xs ys : List ℕ) (q : ℕ) → is_among (xs ++ ys) q ≡ (is_among xs q || is_among ys q)
is_among-append [] ys q = refl
is_among-append (x ∷ xs) ys q = ap (λ b. (x == q) || b) (is_among-append xs ys q) ∙ sym (or_assoc (x == q) (is_among xs q) (is_among ys q))

is_among-inner : (x q : ℕ) → is_among (inner x) q ≡ (is_inner q && (x == q))
is_among-inner x q =
    (elim (x == q) as (λ b. (x == q) ≡ b → is_among (inner x) q ≡ (is_inner q && b)) [
      | true ↦ λ e.
          ap (λ y. is_among (inner y) q) (eqb-true x q e)
          ∙ (elim (is_inner q) as (λ d. is_among (cond d (q ∷ []) []) q ≡ (d && true)) [ true ↦ ap (λ b. b || false) (same_self q) | false ↦ refl ])
      | false ↦ λ e.
          (elim (is_inner x) as (λ d. is_among (cond d (x ∷ []) []) q ≡ false) [ true ↦ ap (λ b. b || false) e | false ↦ refl ])
          ∙ sym (and-false (is_inner q))
    ]) refl

all_of : (a b c d : Bool) → (((a && b) || (a && c)) || (a && d)) ≡ (a && ((b || c) || d))
all_of true b c d = refl
all_of false b c d = refl

pub is_among-ends_of : (covers : List Cover) (q : ℕ) → is_among (flat_map ends_of covers) q ≡ (is_inner q && is_cut covers q)
is_among-ends_of [] q = elim (is_inner q) as (λ d. false ≡ (d && false)) [ true ↦ refl | false ↦ refl ]
is_among-ends_of (c ∷ cs) q =
    is_among-append (ends_of c) (flat_map ends_of cs) q
    ∙ ap (λ b. b || is_among (flat_map ends_of cs) q) (is_among-append (inner c.0.from) (inner (c.0.to + 1)) q)
    ∙ ap (λ b. (b || is_among (inner (c.0.to + 1)) q) || is_among (flat_map ends_of cs) q) (is_among-inner c.0.from q)
    ∙ ap (λ b. ((is_inner q && (c.0.from == q)) || b) || is_among (flat_map ends_of cs) q) (is_among-inner (c.0.to + 1) q)
    ∙ ap (λ b. ((is_inner q && (c.0.from == q)) || (is_inner q && (c.0.to + 1 == q))) || b) (is_among-ends_of cs q)
    ∙ all_of (is_inner q) (c.0.from == q) (c.0.to + 1 == q) (is_cut cs q)

tied_same : (q x : ℕ) → eq_by_cmp nat_cmp q x ≡ (x == q)
tied_same q x = grind (arith, nat_tests)

-- the order's way to say that a number is among others
pub is_member-numbers : (xs : List ℕ) (q : ℕ) → is_member (eq_by_cmp nat_cmp) xs q ≡ is_among xs q
is_member-numbers xs q = ap (λ test. list_any test xs) (λ i x. tied_same q x i)

less_same : (a b : ℕ) → is_lt (nat_cmp a b) ≡ true → a < b
less_same a b h = grind (arith, nat_tests)

-- places in order, each past the first one and each once
pub rise_from-ascending : (first : ℕ) (cuts : List ℕ) → ascends_by (λ a b. is_lt (nat_cmp a b)) (first ∷ cuts) ≡ true → ((q : ℕ) → is_among cuts q ≡ true → is_inner q ≡ true) → rise_from first cuts ≡ true
rise_from-ascending first [] up inside = refl
rise_from-ascending first (cut ∷ cuts) up inside =
    let place = second_so (nat_lt 1 cut) (nat_le cut MOST_PLACES) (inside cut (ap (λ b. b || is_among cuts cut) (same_self cut))) in
    let less = less_same first cut (first_so (is_lt (nat_cmp first cut)) (ascends_by (λ a b. is_lt (nat_cmp a b)) (cut ∷ cuts)) up) in
    and_from (nat_lt first cut && nat_le cut MOST_PLACES) (rise_from cut cuts)
    (and_from (nat_lt first cut) (nat_le cut MOST_PLACES) (lt-ltb first cut less) place)
    (rise_from-ascending cut cuts (second_so (is_lt (nat_cmp first cut)) (ascends_by (λ a b. is_lt (nat_cmp a b)) (cut ∷ cuts)) up) (λ q among. inside q (ap (λ b. (cut == q) || b) among ∙ or-true (cut == q))))

pub rise_from_one : (cuts : List ℕ) → ascends_by (λ a b. is_lt (nat_cmp a b)) cuts ≡ true → ((q : ℕ) → is_among cuts q ≡ true → is_inner q ≡ true) → rise_from 1 cuts ≡ true
rise_from_one [] up inside = refl
rise_from_one (cut ∷ cuts) up inside =
    let here = inside cut (ap (λ b. b || is_among cuts cut) (same_self cut)) in
    rise_from-ascending 1 (cut ∷ cuts) (and_from (is_lt (nat_cmp 1 cut)) (ascends_by (λ a b. is_lt (nat_cmp a b)) (cut ∷ cuts)) (less_is 1 cut (ltb-true 1 cut (first_so (nat_lt 1 cut) (nat_le cut MOST_PLACES) here))) up) inside
  where
    less_is : (a b : ℕ) → a < b → is_lt (nat_cmp a b) ≡ true
    less_is a b h = grind (arith, nat_tests)

-- ---- the cuts of covers, in order and each once

module _ (covers : List Cover) (cuts : List ℕ) (same : (q : ℕ) → is_member (eq_by_cmp nat_cmp) cuts q ≡ is_member (eq_by_cmp nat_cmp) (flat_map ends_of covers) q) where
  pub cuts_are : (q : ℕ) → is_among cuts q ≡ (is_inner q && is_cut covers q)
  cuts_are q = sym (is_member-numbers cuts q) ∙ same q ∙ is_member-numbers (flat_map ends_of covers) q ∙ is_among-ends_of covers q

  pub cuts_rise : ascends_by (λ a b. is_lt (nat_cmp a b)) cuts ≡ true → rise_from 1 cuts ≡ true
  cuts_rise up = rise_from_one cuts up (λ q among. first_so (is_inner q) (is_cut covers q) (sym (cuts_are q) ∙ among))
