-- Ranges that hold places in order, each once, and counts of places over them.
use Rattle.std.proofs.Common.{◌≡◌, ℕ, zero, suc, ◌+◌, ◌-◌, ◌<◌, ◌≤◌, min, Bool, true, false, cond, List, [], ◌∷◌, refl, sym, ap, ◌∙◌, arith, inl, inr}
use Rattle.seq.proofs.Booleans.{one_at_most}
use Rattle.std.specs.Prelude.{◌&&◌, ◌==◌, nat_le, Option, Some, None, All, sum_by}
use Rattle.std.specs.List.{filter_map, cons_option}
use Rattle.std.proofs.lemmas.Bool.{cases_lt, and_from, eq-eqb, eqb-true, le-leb, leb-true, lt-leb}
use Rattle.std.proofs.lemmas.List.Elements.{All-nil, All-cons, All-head, All-tail}
use Rattle.std.proofs.lemmas.List.Sums.{sum_by-cons}
use Rattle.std.proofs.Math.Bool.{and-false}
use Rattle.std.specs.Cmp.{first_so, second_so}
use Rattle.vocabulary.specs.declared.range.TheConstants.{MOST_PLACES}
use Rattle.vocabulary.specs.Places.{Places, holds, places_that, range_of}
use Rattle.desk_words.specs.declared.records.Appointment.{Appointment}
use Rattle.proxy_rules.specs.Governing.{governing_in}
use Rattle.proxy_rules.specs.Tagging.{held_of}
use Rattle.proxy_rules.specs.Tiles.{ArePieces, IsAlike, IsGoverned, governing_of, are_tiled, places_if, places_in, governed_ranges, shares_if}
use Rattle.proxy_rules.specs.declared.holdings.Holding.{Holding}
use Rattle.proxy_rules.specs.declared.meeting_records.Cutoffs.{Cutoffs}
use Rattle.proxy_rules.specs.declared.pieces.GovernedPiece.{GovernedPiece}
use Rattle.share_blocks.specs.Pieces.{follow_from}
use Rattle.share_blocks.proofs.CutLemmas.{follows}

-- ---- the first of ranges that hold places in order

pub record Tiled (first : ℕ) (range : Places) (ranges : List Places) (last : ℕ) : Type 0 where
  pub begins : range.from ≡ first
  pub within : first ≤ range.to
  pub rest : are_tiled (range.to + 1) ranges last ≡ true

pub tiled : (first : ℕ) (range : Places) (ranges : List Places) (last : ℕ) → are_tiled first (range ∷ ranges) last ≡ true → Tiled first range ranges last
tiled first range ranges last h =
    let front = first_so ((range.from == first) && nat_le first range.to) (are_tiled (range.to + 1) ranges last) h in
    record {
      begins = eqb-true range.from first (first_so (range.from == first) (nat_le first range.to) front);
      within = leb-true first range.to (second_so (range.from == first) (nat_le first range.to) front);
      rest = second_so ((range.from == first) && nat_le first range.to) (are_tiled (range.to + 1) ranges last) h;
    }

pub tile_more : (first : ℕ) (range : Places) (ranges : List Places) (last : ℕ) → Tiled first range ranges last → are_tiled first (range ∷ ranges) last ≡ true
tile_more first range ranges last t =
    and_from ((range.from == first) && nat_le first range.to) (are_tiled (range.to + 1) ranges last)
    (and_from (range.from == first) (nat_le first range.to) (eq-eqb range.from first t.begins) (le-leb first range.to t.within))
    t.rest

-- a range holds its own first place
pub holds-first : (range : Places) → range.from ≤ range.to → holds range range.from ≡ true
holds-first range up = and_from (nat_le range.from range.from) (nat_le range.from range.to) (le-leb range.from range.from (omega arith)) (le-leb range.from range.to up)

-- ---- how many places pass

-- of n places at most n pass
pub places_that_le : (test : ℕ → Bool) (n : ℕ) → places_that test n ≤ n
places_that_le test zero = omega arith
places_that_le test (suc n) = omega (arith, places_that_le test n, one_at_most (test (suc n)))

-- all places pass
pub every_place : (n : ℕ) → places_that (λ place. true) n ≡ n
every_place zero = refl
every_place (suc n) = let e = every_place n in omega (arith, e)

-- ---- places that pass alike

one_more : (b : Bool) (a n m : ℕ) → n < m → a + cond b (m - n) 0 + cond b 1 0 ≡ a + cond b (suc m - n) 0
one_more true a n m less = omega arith
one_more false a n m less = omega arith

just_one : (b : Bool) (a n m : ℕ) → m ≡ n → a + cond b 1 0 ≡ a + cond b (suc m - n) 0
just_one true a n m e = omega arith
just_one false a n m e = omega arith

-- over places that all pass the count grows by their number, and over places of which none does it stays
places_that-run : (test : ℕ → Bool) (b : Bool) (n m : ℕ) → n < m → ((place : ℕ) → n < place → place ≤ m → test place ≡ b) → places_that test m ≡ places_that test n + cond b (m - n) 0
places_that-run test b n zero below alike = absurd (omega arith)
places_that-run test b n (suc m) below alike = elim (cases_lt n m) [
  | inl lower ↦
      ap (λ c. places_that test m + cond c 1 0) (alike (suc m) below (omega arith))
      ∙ ap (λ k. k + cond b 1 0) (places_that-run test b n m lower (λ place low high. alike place low (omega arith)))
      ∙ one_more b (places_that test n) n m lower
  | inr upper ↦
      let e : m ≡ n = omega arith in
      ap (λ c. places_that test m + cond c 1 0) (alike (suc m) below (omega arith))
      ∙ ap (λ k. places_that test k + cond b 1 0) e
      ∙ just_one b (places_that test n) n m e
]

length_is : (m n from : ℕ) → n < m → from ≡ n + 1 → m - from + 1 ≡ m - n
length_is m n from up begins = omega arith

past : (a b : ℕ) → a + 1 ≤ b → a < b
past a b h = omega arith

-- one range more counts its places
count_more : (test : ℕ → Bool) (n : ℕ) (range : Places) → range.from ≡ n + 1 → n + 1 ≤ range.to → IsAlike test range → places_that test n + places_if test range ≡ places_that test range.to
count_more test n range begins within alike =
    let up : n < range.to = past n range.to within in
    let stretch = places_that-run test (test range.from) n range.to up
    (λ place low high. alike place (and_from (nat_le range.from place) (nat_le place range.to) (le-leb range.from place (omega (arith, begins))) (le-leb place range.to high))) in
    ap (λ k. places_that test n + cond (test range.from) k 0) (length_is range.to n range.from up begins)
    ∙ sym stretch

count_from : (test : ℕ → Bool) (n : ℕ) (ranges : List Places) (last : ℕ) → are_tiled (n + 1) ranges last ≡ true → All (IsAlike test) ranges
    → places_that test n + sum_by (places_if test) ranges ≡ places_that test last
count_from test n [] last all alike =
    let e : n + 1 ≡ last + 1 = eqb-true (n + 1) (last + 1) all in
    let same : n ≡ last = omega arith in
    let none : places_that test n + 0 ≡ places_that test n = omega arith in
    none ∙ ap (places_that test) same
count_from test n (range ∷ ranges) last all alike =
    let t = tiled (n + 1) range ranges last all in
    let cons = sum_by-cons (places_if test) range ranges in
    let one = count_more test n range t.begins t.within (All-head (IsAlike test) range ranges alike) in
    let rest = count_from test range.to ranges last t.rest (All-tail (IsAlike test) range ranges alike) in
    omega (arith, cons, one, rest)

-- over ranges that hold the places 1 to n in order, on each of which a test answers alike, the places that pass are those of the ranges that pass
pub places_that-tiles : (test : ℕ → Bool) (ranges : List Places) (n : ℕ) → are_tiled 1 ranges n ≡ true → All (IsAlike test) ranges → sum_by (places_if test) ranges ≡ places_that test n
places_that-tiles test ranges n all alike = let whole = count_from test 0 ranges n all alike in omega (arith, whole)

-- ---- the places of pieces

module _ (passes : Option Appointment → Bool) (cutoffs : Cutoffs) (holding : Holding) where
  abbrev passes_at : ℕ → Bool
  passes_at place = passes (governing_in cutoffs holding place)

  record Counted (pieces : List GovernedPiece) : Type 0 where
    alike : All (IsAlike passes_at) (governed_ranges pieces)
    sums : sum_by (shares_if passes holding) pieces ≡ sum_by (places_if passes_at) (governed_ranges pieces)

  counted : (first : ℕ) (pieces : List GovernedPiece) (last : ℕ) → are_tiled first (governed_ranges pieces) last ≡ true → All (IsGoverned cutoffs holding) pieces → Counted pieces
  counted first [] last all governed = record { alike = All-nil (IsAlike passes_at); sums = refl }
  counted first (piece ∷ pieces) last all governed =
      let t = tiled first piece.range (governed_ranges pieces) last all in
      let one = All-head (IsGoverned cutoffs holding) piece pieces governed in
      let rest = counted (piece.range.to + 1) pieces last t.rest (All-tail (IsGoverned cutoffs holding) piece pieces governed) in
      let here : governing_in cutoffs holding piece.range.from ≡ governing_of holding piece = one piece.range.from (holds-first piece.range (omega (arith, t.begins, t.within))) in
      let same : shares_if passes holding piece ≡ places_if passes_at piece.range = ap (λ o. cond (passes o) (places_in piece.range) 0) (sym here) in
      let first_sum = sum_by-cons (shares_if passes holding) piece pieces in
      let other_sum = sum_by-cons (places_if passes_at) piece.range (governed_ranges pieces) in
      record {
        alike = All-cons (IsAlike passes_at) piece.range (governed_ranges pieces) (λ place is. ap passes (one place is ∙ sym here)) rest.alike;
        sums = omega (arith, first_sum, other_sum, same, rest.sums);
      }

  -- the shares that are governed by what passes are those of the pieces that pass
  pub places_that-pieces : (pieces : List GovernedPiece) → ArePieces cutoffs holding pieces → sum_by (shares_if passes holding) pieces ≡ places_that passes_at holding.shares
  places_that-pieces pieces are =
      let c = counted 1 pieces holding.shares are.tiled are.governed in
      c.sums ∙ places_that-tiles passes_at (governed_ranges pieces) holding.shares are.tiled c.alike

-- ---- what a holding has of ranges that hold all places

pub within_range : (from to : ℕ) → 1 ≤ from → from ≤ to → to ≤ MOST_PLACES → range_of from to ≡ Some (record { from = from; to = to })
within_range from to low up high =
    ap (λ b. cond b (Some (record { from = from; to = to })) None)
    (and_from (nat_le 1 from && nat_le from to) (nat_le to MOST_PLACES) (and_from (nat_le 1 from) (nat_le from to) (le-leb 1 from low) (le-leb from to up)) (le-leb to MOST_PLACES high))

pub no_range : (from to : ℕ) → to < from → range_of from to ≡ None
no_range from to less =
    ap (λ b. cond ((nat_le 1 from && b) && nat_le to MOST_PLACES) (Some (record { from = from; to = to })) None) (lt-leb from to less)
    ∙ ap (λ b. cond (b && nat_le to MOST_PLACES) (Some (record { from = from; to = to })) None) (and-false (nat_le 1 from))

-- nothing of what lies past its shares
nothing_held : (shares first : ℕ) (ranges : List Places) → shares < first → follow_from first ranges ≡ true → filter_map (held_of shares) ranges ≡ []
nothing_held shares first [] less all = refl
nothing_held shares first (range ∷ ranges) less all =
    let f = follows first range ranges all in
    ap (λ o. cons_option o (filter_map (held_of shares) ranges)) (no_range range.from (min shares range.to) (omega (arith, f.begins)))
    ∙ nothing_held shares (range.to + 1) ranges (omega (arith, f.within)) f.rest

tiled_from : (shares first : ℕ) (ranges : List Places) → 1 ≤ first → first ≤ shares → shares ≤ MOST_PLACES → follow_from first ranges ≡ true
    → are_tiled first (filter_map (held_of shares) ranges) shares ≡ true
tiled_from shares first [] low here few all = let e = eqb-true first (MOST_PLACES + 1) all in absurd (omega (arith, e))
tiled_from shares first (range ∷ ranges) low here few all =
    let f = follows first range ranges all in
    let to = min shares range.to in
    let others = filter_map (held_of shares) ranges in
    let up : first ≤ to = omega (arith, f.within) in
    let rest : are_tiled (to + 1) others shares ≡ true = elim (cases_lt range.to shares) [
      | inl less ↦
          let e : to ≡ range.to = omega arith in
          ap (λ k. are_tiled (k + 1) others shares) e ∙ tiled_from shares (range.to + 1) ranges (omega arith) (omega arith) few f.rest
      | inr more ↦
          let e : to ≡ shares = omega arith in
          ap (λ k. are_tiled (k + 1) others shares) e
          ∙ ap (λ l. are_tiled (shares + 1) l shares) (nothing_held shares (range.to + 1) ranges (omega arith) f.rest)
          ∙ eq-eqb (shares + 1) (shares + 1) refl
    ] in
    ap (λ o. are_tiled first (cons_option o others) shares) (within_range range.from to (omega (arith, f.begins)) (omega (arith, f.begins)) (omega arith))
    ∙ tile_more first (record { from = range.from; to = to }) others shares (record { begins = f.begins; within = up; rest = rest })

-- what it has of them are its shares, in order
pub tiled-held : (shares : ℕ) (ranges : List Places) → shares ≤ MOST_PLACES → follow_from 1 ranges ≡ true → are_tiled 1 (filter_map (held_of shares) ranges) shares ≡ true
tiled-held shares ranges few all = elim (cases_lt 0 shares) [
  | inl some ↦ tiled_from shares 1 ranges (omega arith) (omega arith) few all
  | inr none ↦
      let e : shares ≡ 0 = omega arith in
      ap (λ l. are_tiled 1 l shares) (nothing_held shares 1 ranges (omega arith) all) ∙ eq-eqb 1 (shares + 1) (omega arith)
]
