-- What the limits of a register give: no sum of its shares wraps.
use Rattle.std.proofs.Common.{◌≡◌, ℕ, ◌+◌, ◌*◌, ◌<◌, ◌≤◌, true, List, length, get_or, take, ap, ◌∙◌, arith}
use Rattle.std.specs.Prelude.{IsPermutation, nat_le, ◌&&◌}
use Rattle.std.specs.Cmp.{first_so, second_so}
use Rattle.std.proofs.lemmas.List.Sorted.{length_permutation, All-permutation, sum_by-IsPermutation}
use Rattle.std.proofs.lemmas.List.Sums.{list_all-from_AllPass}
use Rattle.std.specs.Cmp.Derive.{both_true}
use Rattle.vocabulary.specs.declared.range.TheConstants.{MOST_PLACES}
use Rattle.desk_words.specs.declared.limits.TheConstants.{MOST_ROWS, MOST_SHARES}
use Rattle.std.specs.List.{list_all, All}
use Rattle.std.proofs.lemmas.Bool.Decides.{nat_tests}
use Rattle.std.proofs.lemmas.List.Sums.{sum_by-le, sum_by_more_le, AllPass-from_list_all}
use Rattle.desk_words.specs.declared.records.RegisterRow.{RegisterRow}
use Rattle.desk_words.specs.Registers.{is_holding, all_shares, keep_limits}

-- a holding within its limits has few shares
holding_small : (row : RegisterRow) → is_holding row ≡ true → row.shares ≤ MOST_PLACES
holding_small row h = grind (arith, nat_tests)

-- all shares are few
pub total_small : (rows : List RegisterRow) → length rows ≤ MOST_ROWS → list_all is_holding rows ≡ true → all_shares rows ≤ MOST_ROWS * MOST_PLACES
total_small rows few small =
    let each : All (λ (r : RegisterRow). r.shares ≤ MOST_PLACES) rows = λ k d lt. holding_small (get_or rows k d) (AllPass-from_list_all is_holding rows small k d lt) in
    omega (arith, sum_by-le (λ (r : RegisterRow). r.shares) MOST_PLACES rows each)

-- the shares of the first rows and of one more are few
pub shares_fit : (rows : List RegisterRow) (i : ℕ) (row : RegisterRow) → length rows ≤ MOST_ROWS → list_all is_holding rows ≡ true → i < length rows → row ≡ get_or rows i row → all_shares (take i rows) + row.shares ≤ MOST_ROWS * MOST_PLACES
shares_fit rows i row few small lt is =
    omega (arith, total_small rows few small, sum_by_more_le (λ (r : RegisterRow). r.shares) rows i row lt, ap (λ (r : RegisterRow). r.shares) is)

-- the limits do not depend on the order of the rows
pub keep_limits-permutation : (xs ys : List RegisterRow) → IsPermutation xs ys → keep_limits xs ≡ true → keep_limits ys ≡ true
keep_limits-permutation xs ys moved h =
    let same : length ys ≡ length xs = length_permutation xs ys moved in
    let three = first_so (nat_le 1 (length xs) && nat_le (length xs) MOST_ROWS && list_all is_holding xs) (nat_le (all_shares xs) MOST_SHARES) h in
    let total = second_so (nat_le 1 (length xs) && nat_le (length xs) MOST_ROWS && list_all is_holding xs) (nat_le (all_shares xs) MOST_SHARES) h in
    let count = first_so (nat_le 1 (length xs) && nat_le (length xs) MOST_ROWS) (list_all is_holding xs) three in
    let each = second_so (nat_le 1 (length xs) && nat_le (length xs) MOST_ROWS) (list_all is_holding xs) three in
    both_true
    (both_true (ap (λ n. nat_le 1 n && nat_le n MOST_ROWS) same ∙ count)
    (list_all-from_AllPass is_holding ys (All-permutation (λ row. is_holding row ≡ true) xs ys moved (AllPass-from_list_all is_holding xs each))))
    (ap (λ n. nat_le n MOST_SHARES) (sum_by-IsPermutation (λ (row : RegisterRow). row.shares) xs ys moved) ∙ total)
