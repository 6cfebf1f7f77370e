-- Counts of shares.
use Rattle.std.proofs.Common.{◌≡◌, ℕ, zero, suc, ◌+◌, ◌<◌, ◌≤◌, Bool, true, false, cond, List, [], ◌∷◌, length, get_or, take, refl, sym, ap, ◌∙◌, arith}
use Rattle.std.specs.Prelude.{Option, Some, None, All, sum_by}
use Rattle.std.specs.Cmp.Derive.{both_true}
use Rattle.std.proofs.lemmas.List.Sums.{sum_by-cons, sum_by_more, sum_by_more_le, sum_by_more_le_part, sum_by-le-sum_by}
use Rattle.std.proofs.lemmas.List.Elements.{All-cons, All-head, All-nil, All-tail}
use Rattle.std.proofs.lemmas.Bool.{eqb-true, le-leb}
use Rattle.vocabulary.specs.Places.{Places, places_that}
use Rattle.vocabulary.specs.declared.kinds.Way.{Way}
use Rattle.vocabulary.specs.declared.kinds.Way.TheVariants.{For, Against, Withheld}
use Rattle.desk_words.specs.declared.records.RegisterRow.{RegisterRow}
use Rattle.desk_words.specs.Office.{is_tally, are_rows}
use Rattle.desk_words.specs.Registers.{all_shares}
use Rattle.proxy_rules.specs.Shares.{shares_of}
use Rattle.vote_rules.specs.Sums.{FitsBoth, FitsMore, added, tally_over, tally_to, votes_over}
use Rattle.vote_rules.specs.Tallies.{is_vote, votes_to, votes, tally_by}
use Rattle.proxy_rules.specs.Tiles.{are_tiled, places_if, places_in}
use Rattle.proxy_rules.proofs.TileLemmas.{every_place, places_that_le, places_that-tiles, tiled}
use Rattle.proxy_rules.proofs.ShareLemmas.{shares_of-le, all_shares-le}

-- no row has more votes one way than shares
pub votes_to-le : (vote : ℕ → Option Way) (way : Way) (row : RegisterRow) → votes_to vote way (shares_of row) ≤ row.shares
votes_to-le vote way row =
    omega (arith, shares_of-le row, places_that_le (λ place. is_vote way (vote place)) (shares_of row))

-- what is counted of the first rows, and of one more, is at most all shares
counted-le : (f : RegisterRow → ℕ) (rows : List RegisterRow) (i : ℕ) (row : RegisterRow) → ((r : RegisterRow) → f r ≤ r.shares) → i < length rows → row ≡ get_or rows i row → sum_by f (take i rows) + f row ≤ all_shares rows
counted-le f rows i row below lt is =
    let more : sum_by f (take i rows) + (get_or rows i row).shares ≤ all_shares rows = sum_by_more_le_part f (λ (r : RegisterRow). r.shares) rows i row lt below in
    omega (arith, more, below row, ap (λ (r : RegisterRow). r.shares) is)

-- the count of the first rows and that of one more fit together
pub counts_fit : (vote : RegisterRow → ℕ → Option Way) (rows : List RegisterRow) (i : ℕ) (row : RegisterRow) → all_shares rows ≤ 1000000000000 → i < length rows → row ≡ get_or rows i row
    → FitsBoth (tally_by vote (take i rows)) (tally_to (vote row) (shares_of row))
counts_fit vote rows i row few lt is =
    let counted : (way : Way) → sum_by (λ r. votes_to (vote r) way (shares_of r)) (take i rows) + votes_to (vote row) way (shares_of row) ≤ all_shares rows =
    λ way. counted-le (λ r. votes_to (vote r) way (shares_of r)) rows i row (λ r. votes_to-le (vote r) way r) lt is in
    record {
      votes_for = omega (arith, few, counted For);
      votes_against = omega (arith, few, counted Against);
      withheld = omega (arith, few, counted Withheld);
      eligible = omega (arith, few, counted-le shares_of rows i row shares_of-le lt is);
    }

sum_by-next : (f : RegisterRow → ℕ) (rows : List RegisterRow) (i : ℕ) (row : RegisterRow) → i < length rows → row ≡ get_or rows i row → sum_by f (take i rows) + f row ≡ sum_by f (take (i + 1) rows)
sum_by-next f rows i row lt is = ap (λ r. sum_by f (take i rows) + f r) is ∙ sym (sum_by_more f rows i row lt)

-- one row more
pub added-next : (vote : RegisterRow → ℕ → Option Way) (rows : List RegisterRow) (i : ℕ) (row : RegisterRow) → i < length rows → row ≡ get_or rows i row
    → added (tally_by vote (take i rows)) (tally_to (vote row) (shares_of row)) ≡ tally_by vote (take (i + 1) rows)
added-next vote rows i row lt is =
    let next : (way : Way) → votes vote way (take i rows) + votes_to (vote row) way (shares_of row) ≡ votes vote way (take (i + 1) rows) =
    λ way. sum_by-next (λ r. votes_to (vote r) way (shares_of r)) rows i row lt is in
    let shares = sum_by-next shares_of rows i row lt is in
    λ k. record { votes_for = next For k; votes_against = next Against k; withheld = next Withheld k; eligible = shares k }

-- no row has more shares than there are places
pub row-le : (rows : List RegisterRow) (i : ℕ) (row : RegisterRow) → all_shares rows ≤ 1000000000000 → i < length rows → row ≡ get_or rows i row → row.shares ≤ 1000000000000
row-le rows i row few lt is =
    let more = sum_by_more_le (λ (r : RegisterRow). r.shares) rows i row lt in
    omega (arith, more, few, ap (λ (r : RegisterRow). r.shares) is)

-- ---- the votes of a tally are at most its shares

one_way_at_most : (vote : Option Way) → cond (is_vote For vote) 1 0 + cond (is_vote Against vote) 1 0 + cond (is_vote Withheld vote) 1 0 ≤ 1
one_way_at_most None = omega arith
one_way_at_most (Some For) = omega arith
one_way_at_most (Some Against) = omega arith
one_way_at_most (Some Withheld) = omega arith

three_ways : (vote : ℕ → Option Way) (n : ℕ) → votes_to vote For n + votes_to vote Against n + votes_to vote Withheld n ≤ n
three_ways vote zero = omega arith
three_ways vote (suc n) = omega (arith, three_ways vote n, one_way_at_most (vote (suc n)))

three_sums : (f g h k : RegisterRow → ℕ) → ((row : RegisterRow) → f row + g row + h row ≤ k row) → (rows : List RegisterRow) → sum_by f rows + sum_by g rows + sum_by h rows ≤ sum_by k rows
three_sums f g h k each [] = omega arith
three_sums f g h k each (row ∷ rows) =
    omega (arith, sum_by-cons f row rows, sum_by-cons g row rows, sum_by-cons h row rows, sum_by-cons k row rows, each row, three_sums f g h k each rows)

pub votes-le : (vote : RegisterRow → ℕ → Option Way) (rows : List RegisterRow) → votes vote For rows + votes vote Against rows + votes vote Withheld rows ≤ sum_by shares_of rows
votes-le vote rows =
    three_sums (λ row. votes_to (vote row) For (shares_of row)) (λ row. votes_to (vote row) Against (shares_of row)) (λ row. votes_to (vote row) Withheld (shares_of row)) shares_of
    (λ row. three_ways (vote row) (shares_of row)) rows

shares-le : (rows : List RegisterRow) → sum_by shares_of rows ≤ all_shares rows
shares-le rows = sum_by-le-sum_by shares_of (λ (row : RegisterRow). row.shares) rows shares_of-le

-- whatever the votes of the shares, the tally of a register is one
pub is_tally-tally_by : (vote : RegisterRow → ℕ → Option Way) (rows : List RegisterRow) → are_rows rows ≡ true → is_tally (tally_by vote rows) ≡ true
is_tally-tally_by vote rows h =
    let few : sum_by shares_of rows ≤ 1000000000000 = omega (arith, shares-le rows, all_shares-le rows h) in
    both_true (le-leb (votes vote For rows + votes vote Against rows + votes vote Withheld rows) (sum_by shares_of rows) (votes-le vote rows)) (le-leb (sum_by shares_of rows) 1000000000000 few)

-- ---- ranges

places_if-le : (test : ℕ → Bool) (range : Places) → places_if test range ≤ places_in range
places_if-le test range = elim (test range.from) as (λ b. cond b (places_in range) 0 ≤ places_in range) [ true ↦ omega arith | false ↦ omega arith ]

-- the count of the first ranges and the places of one more fit together
pub ranges_fit : (vote : ℕ → Option Way) (ranges : List Places) (i : ℕ) (range : Places) → sum_by places_in ranges ≤ 1000000000000 → i < length ranges → range ≡ get_or ranges i range
    → FitsMore (tally_over vote (take i ranges)) (places_in range)
ranges_fit vote ranges i range few lt is =
    let same : places_in range ≡ places_in (get_or ranges i range) = ap places_in is in
    let counted : (way : Way) → votes_over vote way (take i ranges) + places_in range ≤ sum_by places_in ranges =
    λ way.
    let more = sum_by_more_le_part (places_if (λ place. is_vote way (vote place))) places_in ranges i range lt (places_if-le (λ place. is_vote way (vote place))) in
    omega (arith, more, same) in
    let all = sum_by_more_le places_in ranges i range lt in
    record {
      votes_for = omega (arith, few, counted For);
      votes_against = omega (arith, few, counted Against);
      withheld = omega (arith, few, counted Withheld);
      eligible = omega (arith, few, all, same);
    }

-- tests that answer alike at the places 1 to n count alike
pub places_that-alike : (test other : ℕ → Bool) (n : ℕ) → ((place : ℕ) → 1 ≤ place → place ≤ n → test place ≡ other place) → places_that test n ≡ places_that other n
places_that-alike test other zero alike = refl
places_that-alike test other (suc n) alike =
    ap (λ b. places_that test n + cond b 1 0) (alike (suc n) (omega arith) (omega arith))
    ∙ ap (λ k. k + cond (other (suc n)) 1 0) (places_that-alike test other n (λ place low high. alike place low (omega arith)))

-- ranges that hold the places 1 to n hold n places
pub places_in-tiles : (ranges : List Places) (n : ℕ) → are_tiled 1 ranges n ≡ true → sum_by places_in ranges ≡ n
places_in-tiles ranges n all = places_that-tiles (λ place. true) ranges n all (λ k d lt place held. refl) ∙ every_place n

-- the ranges hold the places from one on, to the last
tiled_bound : (first last : ℕ) (ranges : List Places) → are_tiled first ranges last ≡ true → first ≤ last + 1
tiled_bound first last [] all = let e : first ≡ last + 1 = eqb-true first (last + 1) all in omega arith
tiled_bound first last (range ∷ ranges) all = let t = tiled first range ranges last all in omega (arith, tiled_bound (range.to + 1) last ranges t.rest, t.within)

-- a fact of each range that lies in the places 1 to n
pub of_tiles : (P Q : Places → Type 0) (n first : ℕ) (ranges : List Places) → 1 ≤ first → are_tiled first ranges n ≡ true → All P ranges
    → ((range : Places) → 1 ≤ range.from → range.from ≤ range.to → range.to ≤ n → P range → Q range) → All Q ranges
of_tiles P Q n first [] low all each then_holds = All-nil Q
of_tiles P Q n first (range ∷ ranges) low all each then_holds =
    let t = tiled first range ranges n all in
    let bound = tiled_bound (range.to + 1) n ranges t.rest in
    All-cons Q range ranges
    (then_holds range (omega (arith, t.begins)) (omega (arith, t.begins, t.within)) (omega (arith, bound)) (All-head P range ranges each))
    (of_tiles P Q n (range.to + 1) ranges (omega arith) t.rest (All-tail P range ranges each) then_holds)
