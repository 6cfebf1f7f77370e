-- Counts of shares.
use Rattle.std.proofs.Common.{◌≡◌, ℕ, ◌≤◌, true, false, cond, List, [], ◌∷◌, length, arith}
use Rattle.std.specs.Prelude.{◌&&◌, Some, find, nat_le}
use Rattle.std.specs.Cmp.{first_so, second_so}
use Rattle.std.specs.List.{list_all}
use Rattle.std.specs.Option.{option_map_or}
use Rattle.std.proofs.lemmas.Bool.Decides.{nat_tests}
use Rattle.std.proofs.lemmas.List.Sums.{sum_by-cons}
use Rattle.desk_words.specs.Office.{are_rows}
use Rattle.seq.specs.Ordered.{ascends_by}
use Rattle.vocabulary.specs.Names.{same_name}
use Rattle.vocabulary.specs.declared.kinds.HolderKind.{HolderKind}
use Rattle.vocabulary.specs.declared.kinds.HolderKind.TheVariants.{Individual, Corporation, Treasury}
use Rattle.desk_words.specs.declared.records.RegisterRow.{RegisterRow}
use Rattle.desk_words.specs.declared.limits.TheConstants.{MOST_SHARES}
use Rattle.desk_words.specs.Registers.{is_holding, all_shares, keep_limits, member_before}
use Rattle.proxy_rules.specs.Shares.{shares_held, shares_of, shares_by}

shares_held-le : (kind : HolderKind) (n : ℕ) → shares_held kind n ≤ n
shares_held-le Individual n = omega arith
shares_held-le Corporation n = omega arith
shares_held-le Treasury n = omega arith

-- a row has no more shares than stand in it
pub shares_of-le : (row : RegisterRow) → shares_of row ≤ row.shares
shares_of-le row = shares_held-le row.kind row.shares

few_so : (n : ℕ) → nat_le n MOST_SHARES ≡ true → n ≤ 1000000000000
few_so n h = grind (arith, nat_tests)

-- the shares of a register are few, and without rows there are none
pub all_shares-le : (rows : List RegisterRow) → are_rows rows ≡ true → all_shares rows ≤ 1000000000000
all_shares-le [] h = omega arith
all_shares-le (row ∷ rows) h =
    let limits = first_so (keep_limits (row ∷ rows)) (ascends_by member_before (row ∷ rows)) h in
    few_so (all_shares (row ∷ rows))
    (second_so (nat_le 1 (length (row ∷ rows)) && nat_le (length (row ∷ rows)) 20000 && list_all is_holding (row ∷ rows)) (nat_le (all_shares (row ∷ rows)) MOST_SHARES) limits)

-- no member has more shares than there are
member-le : (rows : List RegisterRow) (member : List ℕ) → shares_by rows member ≤ all_shares rows
member-le [] member = omega arith
member-le (row ∷ rows) member =
    let all = sum_by-cons (λ (r : RegisterRow). r.shares) row rows in
    elim (same_name row.member member) as (λ b. option_map_or shares_of (cond b (Some row) (find (λ (r : RegisterRow). same_name r.member member) rows)) 0 ≤ all_shares (row ∷ rows)) [
      | true ↦ omega (arith, all, shares_of-le row)
      | false ↦ omega (arith, all, member-le rows member)
    ]

-- a member's shares are few
pub shares_by-le : (rows : List RegisterRow) (member : List ℕ) → are_rows rows ≡ true → shares_by rows member ≤ 1000000000000
shares_by-le rows member h = omega (arith, all_shares-le rows h, member-le rows member)
