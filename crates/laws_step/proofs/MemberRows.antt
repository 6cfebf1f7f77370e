-- A member's row, which is the only one of its member.
use Rattle.std.proofs.Common.{◌≡◌, ℕ, Bool, true, false, not, ◌&&◌, ◌||◌, cond, List, [], ◌∷◌, length, refl, sym, ap, ◌∙◌, true≢false}
use Rattle.std.specs.Prelude.{Some, nat_le}
use Rattle.std.specs.Cmp.Lexicographic.{texts_ties}
use Rattle.std.specs.List.{list_all, list_any}
use Rattle.std.specs.Option.{option_map_or}
use Rattle.std.proofs.lemmas.Cmp.{nat_list_cmp_total}
use Rattle.desk_words.specs.Office.{are_rows}
use Rattle.seq.proofs.Filtered.{none-narrower}
use Rattle.std.proofs.Math.Bool.{or-false}
use Rattle.std.proofs.lemmas.Bool.{not-true}
use Rattle.std.specs.Cmp.{first_so, second_so}
use Rattle.seq.proofs.Ascending.{differs-from_ascends_by}
use Rattle.seq.specs.Ordered.{ascends_by, differ_by}
use Rattle.vocabulary.specs.Names.{same_name}
use Rattle.desk_words.proofs.WordRowLemmas.{same_name-true, same_name-refl}
use Rattle.desk_words.specs.Registers.{all_shares, is_holding, keep_limits, member_before, same_member}
use Rattle.desk_words.specs.declared.records.RegisterRow.{RegisterRow}
use Rattle.desk_words.specs.declared.limits.TheConstants.{MOST_SHARES}
use Rattle.proxy_rules.specs.Shares.{row_of}

-- the rows of a meeting are in the order of members
rows_ascend : (rows : List RegisterRow) → are_rows rows ≡ true → ascends_by member_before rows ≡ true
rows_ascend [] h = refl
rows_ascend (row ∷ rows) h = second_so (keep_limits (row ∷ rows)) (ascends_by member_before (row ∷ rows)) h

-- the rows of a meeting are of different members
pub rows_differ : (rows : List RegisterRow) → are_rows rows ≡ true → differ_by same_member rows ≡ true
rows_differ rows h = differs-from_ascends_by nat_list_cmp_total (λ (row : RegisterRow). row.member) rows (rows_ascend rows h)

-- and each is within its limits
pub rows_held : (rows : List RegisterRow) → are_rows rows ≡ true → list_all is_holding rows ≡ true
rows_held [] h = refl
rows_held (row ∷ rows) h =
    let all = row ∷ rows in
    let few = nat_le 1 (length all) && nat_le (length all) 20000 in
    let limits = first_so (keep_limits all) (ascends_by member_before all) h in
    second_so few (list_all is_holding all) (first_so (few && list_all is_holding all) (nat_le (all_shares all) MOST_SHARES) limits)

-- a row is of no member that is not its own
other_member : (row other : RegisterRow) (member : List ℕ) (b : Bool) → row.member ≡ member → same_member row other ≡ false
    → (same_name other.member member && b) ≡ false
other_member row other member b own apart =
    (elim (same_name other.member member) as (λ same. same_name other.member member ≡ same → (same && b) ≡ false) [
      | true ↦ λ e.
          let alike : row.member ≡ other.member = own ∙ sym (same_name-true other.member member e) in
          let tied = texts_ties row.member other.member in
          absurd (true≢false (sym (same_name-refl row.member) ∙ ap (same_name row.member) alike ∙ tied ∙ apart))
      | false ↦ λ e. refl
    ]) refl

-- a member's row passes a test exactly where some row of the member does
pub row_of-any : (test : RegisterRow → Bool) (rows : List RegisterRow) (member : List ℕ) → differ_by same_member rows ≡ true
    → option_map_or test (row_of rows member) false ≡ list_any (λ row. same_name row.member member && test row) rows
row_of-any test [] member differ = refl
row_of-any test (row ∷ rows) member differ =
    let of_member : RegisterRow → Bool = λ other. same_name other.member member && test other in
    let again = list_any (same_member row) rows in
    let alone = not-true again (first_so (not again) (differ_by same_member rows) differ) in
    let later = second_so (not again) (differ_by same_member rows) differ in
    (elim (same_name row.member member) as (λ b. same_name row.member member ≡ b
    → option_map_or test (cond b (Some row) (row_of rows member)) false ≡ ((b && test row) || list_any of_member rows)) [
      | true ↦ λ e.
          let narrower = λ (other : RegisterRow) (apart : same_member row other ≡ false).
          other_member row other member (test other) (same_name-true row.member member e) apart in
          sym (ap (λ b. test row || b) (none-narrower (same_member row) of_member rows narrower alone) ∙ or-false (test row))
      | false ↦ λ e. row_of-any test rows member later
    ]) refl
