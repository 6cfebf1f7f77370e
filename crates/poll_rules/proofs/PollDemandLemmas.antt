-- Sums of a demand.
use Rattle.std.proofs.Common.{◌≡◌, ℕ, ◌+◌, ◌*◌, ◌^◌, ◌<◌, ◌≤◌, Bool, true, false, cond, List, [], ◌∷◌, length, get_or, filter, map, take, nat_eq, refl, sym, ap, ◌∙◌, arith, true≢false}
use Rattle.std.specs.Prelude.{◌&&◌, ◌||◌, nat_le, nat_lt, sum_by, count_by}
use Rattle.std.specs.Cmp.{first_so, second_so}
use Rattle.std.specs.List.{list_all}
use Rattle.std.proofs.Math.Nat.{mul-le-mul_left}
use Rattle.std.proofs.lemmas.List.Sums.{sum_by-cons, sum_by_more, sum_by_more_le, sum_by-take-le, sum_by-le-sum_by, count_by-le-length}
use Rattle.std.proofs.lemmas.Bool.{leb-true}
use Rattle.std.proofs.lemmas.Bool.Decides.{nat_tests}
use Rattle.desk_words.specs.Office.{are_rows}
use Rattle.seq.proofs.Filtered.{any-filter}
use Rattle.seq.specs.Ordered.{ascends_by}
use Rattle.vocabulary.specs.Names.{same_name}
use Rattle.vocabulary.specs.Places.{places_that}
use Rattle.desk_words.specs.Registers.{all_shares, is_holding, keep_limits, member_before}
use Rattle.desk_words.specs.declared.records.Appointment.{Appointment}
use Rattle.desk_words.specs.declared.records.Authority.{Authority}
use Rattle.desk_words.specs.declared.records.DemandMark.{DemandMark}
use Rattle.desk_words.specs.declared.records.Ending.{Ending}
use Rattle.desk_words.specs.declared.records.RegisterRow.{RegisterRow}
use Rattle.desk_words.specs.declared.limits.TheConstants.{MOST_SHARES}
use Rattle.proxy_rules.specs.Shares.{shares_of}
use Rattle.proxy_rules.specs.declared.meeting_records.Cutoffs.{Cutoffs}
use Rattle.proxy_rules.specs.declared.pieces.GovernedPiece.{GovernedPiece}
use Rattle.proxy_rules.specs.Governing.{governing_in}
use Rattle.proxy_rules.specs.Holdings.{holding_by}
use Rattle.proxy_rules.specs.Tiles.{ArePieces, shares_if}
use Rattle.proxy_rules.proofs.TileLemmas.{every_place, places_that-pieces, places_that_le}
use Rattle.proxy_rules.proofs.ShareLemmas.{all_shares-le, shares_of-le}
use Rattle.poll_rules.specs.DemandSums.{FitsRow, sums_by, with_row}
use Rattle.poll_rules.specs.Demands.{by_a_representative, demand_by, demand_of, has_demanded, holder_demanded, is_demand_in, is_enough, names_one, paid_on, share_demands, shares_demanding}
use Rattle.poll_rules.specs.GatheredItems.{are_in}
use Rattle.poll_rules.specs.declared.demand.Demand.{Demand}
use Rattle.poll_rules.proofs.ActingLemmas.{nobody_may_act, none_demand}
use Rattle.poll_rules.proofs.GatherLemmas.{list_any-map}

-- ---- the shares of a row that demand

-- where the holder demands it, all shares do
pub all_demand : (demanded : List ℕ → Bool) (cutoffs : Cutoffs) (given : List Appointment) (ended : List Ending) (authorities : List Authority) (row : RegisterRow)
    → (holder_demanded demanded row || by_a_representative demanded authorities row) ≡ true → shares_of row ≡ shares_demanding demanded cutoffs given ended authorities row
all_demand demanded cutoffs given ended authorities row holder =
    sym (every_place (shares_of row))
    ∙ ap (λ b. places_that (λ place. b || names_one demanded (governing_in cutoffs (holding_by given ended row) place)) (shares_of row)) (sym holder)

-- and else those of the pieces whose proxies do
pub pieces_demand : (demanded : List ℕ → Bool) (cutoffs : Cutoffs) (given : List Appointment) (ended : List Ending) (authorities : List Authority) (row : RegisterRow) (pieces : List GovernedPiece)
    → (holder_demanded demanded row || by_a_representative demanded authorities row) ≡ false → ArePieces cutoffs (holding_by given ended row) pieces
    → sum_by (shares_if (names_one demanded) (holding_by given ended row)) pieces ≡ shares_demanding demanded cutoffs given ended authorities row
pieces_demand demanded cutoffs given ended authorities row pieces holder are =
    places_that-pieces (names_one demanded) cutoffs (holding_by given ended row) pieces are
    ∙ ap (λ b. places_that (λ place. b || names_one demanded (governing_in cutoffs (holding_by given ended row) place)) (shares_of row)) (sym holder)

-- no row has more shares that demand than shares
pub demanding-le : (demanded : List ℕ → Bool) (cutoffs : Cutoffs) (given : List Appointment) (ended : List Ending) (authorities : List Authority) (row : RegisterRow)
    → shares_demanding demanded cutoffs given ended authorities row ≤ shares_of row
demanding-le demanded cutoffs given ended authorities row = places_that_le (share_demands demanded cutoffs given ended authorities row) (shares_of row)

-- ---- the limits of rows

record Limits (rows : List RegisterRow) : Type 0 where
  pub few : length rows ≤ 20000
  pub each : list_all is_holding rows ≡ true
  pub shares : all_shares rows ≤ 1000000000000

limits : (rows : List RegisterRow) → are_rows rows ≡ true → Limits rows
limits [] h = record { few = omega arith; each = refl; shares = omega arith }
limits (row ∷ rows) h =
    let preserved = first_so (keep_limits (row ∷ rows)) (ascends_by member_before (row ∷ rows)) h in
    let front = first_so (nat_le 1 (length (row ∷ rows)) && nat_le (length (row ∷ rows)) 20000 && list_all is_holding (row ∷ rows)) (nat_le (all_shares (row ∷ rows)) MOST_SHARES) preserved in
    let sizes = first_so (nat_le 1 (length (row ∷ rows)) && nat_le (length (row ∷ rows)) 20000) (list_all is_holding (row ∷ rows)) front in
    record {
      few = leb-true (length (row ∷ rows)) 20000 (second_so (nat_le 1 (length (row ∷ rows))) (nat_le (length (row ∷ rows)) 20000) sizes);
      each = second_so (nat_le 1 (length (row ∷ rows)) && nat_le (length (row ∷ rows)) 20000) (list_all is_holding (row ∷ rows)) front;
      shares = all_shares-le (row ∷ rows) h;
    }

paid_le : (row : RegisterRow) → is_holding row ≡ true → row.paid ≤ 1000000
paid_le row h = leb-true row.paid 1000000 (second_so (nat_le 1 row.shares && nat_le row.shares 1000000000000) (nat_le row.paid 1000000) h)

one_paid : (shares paid held : ℕ) → shares ≤ held → paid ≤ 1000000 → shares * paid ≤ 1000000 * held
one_paid shares paid held few small = omega (arith, mul-le-mul_left shares small)

-- what is paid up on some shares of each row is at most 10^6 pence for each share
paid-le : (f : RegisterRow → ℕ) → ((row : RegisterRow) → f row ≤ row.shares) → (rows : List RegisterRow) → list_all is_holding rows ≡ true → sum_by (paid_on f) rows ≤ 1000000 * all_shares rows
paid-le f below [] h = omega arith
paid-le f below (row ∷ rows) h =
    omega (
      arith,
      sum_by-cons (paid_on f) row rows,
      sum_by-cons (λ (r : RegisterRow). r.shares) row rows,
      one_paid (f row) row.paid row.shares (below row) (paid_le row (first_so (is_holding row) (list_all is_holding rows) h)),
      paid-le f below rows (second_so (is_holding row) (list_all is_holding rows) h),
    )

-- ---- one row more

pub next : {X : Type 0} (f : X → ℕ) (rows : List X) (i : ℕ) (row : X) → i < length rows → row ≡ get_or rows i row → sum_by f (take i rows) + f row ≡ sum_by f (take (i + 1) rows)
next f rows i row lt is = ap (λ r. sum_by f (take i rows) + f r) is ∙ sym (sum_by_more f rows i row lt)

pub next-le : {X : Type 0} (f : X → ℕ) (rows : List X) (i : ℕ) (row : X) → i < length rows → row ≡ get_or rows i row → sum_by f (take i rows) + f row ≤ sum_by f rows
next-le f rows i row lt is = omega (arith, sum_by_more_le f rows i row lt, ap f is)

pub sums-more : (f : RegisterRow → ℕ) (rows : List RegisterRow) (i : ℕ) (row : RegisterRow) → i < length rows → row ≡ get_or rows i row → with_row (sums_by f (take i rows)) row (f row) ≡ sums_by f (take (i + 1) rows)
sums-more f rows i row lt is =
    let members = next (λ r. cond (nat_lt 0 (f r)) 1 0) rows i row lt is in
    let shares = next f rows i row lt is in
    let paid = next (paid_on f) rows i row lt is in
    let all_shares = next shares_of rows i row lt is in
    let all_paid = next (paid_on shares_of) rows i row lt is in
    λ k. record { members = members k; shares = shares k; paid = paid k; all_shares = all_shares k; all_paid = all_paid k }

shares-le : (f : RegisterRow → ℕ) → ((row : RegisterRow) → f row ≤ shares_of row) → (row : RegisterRow) → f row ≤ row.shares
shares-le f below row = omega (arith, below row, shares_of-le row)

sum-le : (f : RegisterRow → ℕ) → ((row : RegisterRow) → f row ≤ row.shares) → (rows : List RegisterRow) → sum_by f rows ≤ all_shares rows
sum-le f below rows = sum_by-le-sum_by f (λ (row : RegisterRow). row.shares) rows below

pub sums_fit : (f : RegisterRow → ℕ) → ((row : RegisterRow) → f row ≤ shares_of row) → (rows : List RegisterRow) (i : ℕ) (row : RegisterRow) → are_rows rows ≡ true → i < length rows → row ≡ get_or rows i row
    → FitsRow (sums_by f (take i rows)) row (f row)
sums_fit f below rows i row h lt is =
    let l = limits rows h in
    let counted : count_by (λ r. nat_lt 0 (f r)) (take i rows) ≤ length rows = omega (arith, sum_by-take-le (λ r. cond (nat_lt 0 (f r)) 1 0) rows i, count_by-le-length (λ r. nat_lt 0 (f r)) rows) in
    record {
      members = omega (arith, l.few, counted);
      shares = omega (arith, l.shares, next-le f rows i row lt is, sum-le f (shares-le f below) rows);
      paid = omega (arith, l.shares, next-le (paid_on f) rows i row lt is, paid-le f (shares-le f below) rows l.each);
      all_shares = omega (arith, l.shares, next-le shares_of rows i row lt is, sum-le shares_of shares_of-le rows);
      all_paid = omega (arith, l.shares, next-le (paid_on shares_of) rows i row lt is, paid-le shares_of shares_of-le rows l.each);
    }

-- tenfold sums fit
pub tenfold_shares : (f : RegisterRow → ℕ) → ((row : RegisterRow) → f row ≤ shares_of row) → (rows : List RegisterRow) → are_rows rows ≡ true → 10 * sum_by f rows < 2 ^ 64
tenfold_shares f below rows h = omega (arith, (limits rows h).shares, sum-le f (shares-le f below) rows)

pub tenfold_paid : (f : RegisterRow → ℕ) → ((row : RegisterRow) → f row ≤ shares_of row) → (rows : List RegisterRow) → are_rows rows ≡ true → 10 * sum_by (paid_on f) rows < 2 ^ 64
tenfold_paid f below rows h = let l = limits rows h in omega (arith, l.shares, paid-le f (shares-le f below) rows l.each)

-- ---- those who demanded

-- they are those who have demanded
pub have_demanded : (demands : List DemandMark) (session resolution : ℕ) (person : List ℕ)
    → are_in (map (λ (d : DemandMark). d.party) (filter (is_demand_in session resolution) demands)) person ≡ has_demanded demands session resolution person
have_demanded demands session resolution person =
    list_any-map (λ other. same_name other person) (λ (d : DemandMark). d.party) (filter (is_demand_in session resolution) demands)
    ∙ any-filter (λ (d : DemandMark). same_name d.party person) (is_demand_in session resolution) demands

-- a list that is tested to be empty has no items
pub no_items : {X : Type 0} (xs : List X) (is_empty : Bool) → is_empty ≡ true → is_empty ≡ nat_eq (length xs) 0 → xs ≡ []
no_items [] is_empty so is = refl
no_items (x ∷ xs) is_empty so is =
    let some : nat_eq (length (x ∷ xs)) 0 ≡ false = grind (arith, nat_tests) in
    absurd (true≢false (sym so ∙ is ∙ some))

-- where every number is 0, the sum is 0
sum-none : {X : Type 0} (f : X → ℕ) → ((x : X) → f x ≡ 0) → (xs : List X) → sum_by f xs ≡ 0
sum-none f none [] = refl
sum-none f none (x ∷ xs) = omega (arith, sum_by-cons f x xs, none x, sum-none f none xs)

-- where no share demands it, it is the demand of nobody
pub no_demand : (f : RegisterRow → ℕ) → ((row : RegisterRow) → f row ≡ 0) → (rows : List RegisterRow) → ◌≡◌ {A = Demand} (record { members = 0; shares = 0; paid = 0; reached = false }) (demand_by f rows)
no_demand f none rows =
    let members = sum-none (λ (r : RegisterRow). cond (nat_lt 0 (f r)) 1 0) (λ r. ap (λ n. cond (nat_lt 0 n) 1 0) (none r)) rows in
    let shares = sum-none f none rows in
    let nothing : (paid : ℕ) → 0 * paid ≡ 0 = λ paid. omega arith in
    let paid = sum-none (paid_on f) (λ r. ap (λ n. n * r.paid) (none r) ∙ nothing r.paid) rows in
    sym (λ k. record {
      members = members k;
      shares = shares k;
      paid = paid k;
      reached = is_enough (members k) (shares k) (paid k) (sum_by shares_of rows) (sum_by (paid_on shares_of) rows);
    })

-- nobody demanded it
pub nobody_demanded : (cutoffs : Cutoffs) (register : List RegisterRow) (given : List Appointment) (ended : List Ending) (authorities : List Authority) (demands : List DemandMark) (session resolution : ℕ)
    → map (λ (d : DemandMark). d.party) (filter (is_demand_in session resolution) demands) ≡ []
    → ◌≡◌ {A = Demand} (record { members = 0; shares = 0; paid = 0; reached = false }) (demand_of cutoffs register given ended authorities demands session resolution)
nobody_demanded cutoffs register given ended authorities demands session resolution none =
    let nobody : ◌≡◌ {A = List ℕ → Bool} (λ person. false) (has_demanded demands session resolution) = λ k person. (ap (λ persons. are_in persons person) (sym none) ∙ have_demanded demands session resolution person) k in
    no_demand (shares_demanding (λ person. false) cutoffs given ended authorities)
    (λ row. sym (none_demand (λ person. false) cutoffs given ended authorities row (nobody_may_act given authorities row.member))) register
    ∙ ap (λ demanded. demand_by (shares_demanding demanded cutoffs given ended authorities) register) nobody
