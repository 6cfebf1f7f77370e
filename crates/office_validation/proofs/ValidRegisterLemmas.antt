-- Rows of a register that come in any order.
use Rattle.std.proofs.Common.{◌≡◌, true, false, ◌&&◌, ◌==◌, cond, List, [], ◌∷◌, length, refl, ap, sym, ◌∙◌}
use Rattle.std.specs.Prelude.{Some, None, Result, Err}
use Rattle.std.specs.Cmp.{both_ways}
use Rattle.std.specs.Cmp.Lexicographic.{nat_list_cmp_total}
use Rattle.std.proofs.lemmas.List.Sorted.{IsPermutation-sym}
use Rattle.seq.specs.Ordered.{ascends_by, differ_by}
use Rattle.seq.specs.Sorting.{insert_by, sort_by}
use Rattle.seq.proofs.Ascending.{differ_by_key-IsPermutation, differs-from_ascends_by}
use Rattle.seq.proofs.SortingLemmas.{IsPermutation-sort_by, ascends-sort_by}
use Rattle.desk_words.proofs.RegisterLimits.{keep_limits-permutation}
use Rattle.desk_words.specs.Office.{no_rows}
use Rattle.desk_words.specs.Registers.{are_holdings, is_register, keep_limits, member_before, register_of, same_member}
use Rattle.desk_words.specs.declared.list_types.ListFault.{ListFault}
use Rattle.desk_words.specs.declared.list_types.ListFault.TheVariants.{Limit, Memory}
use Rattle.desk_words.specs.declared.records.RegisterRow.{RegisterRow}
use Rattle.office_validation.specs.Validation.{rows_checked}

limits-sorted : (rows : List RegisterRow) → keep_limits (sort_by member_before rows) ≡ keep_limits rows
limits-sorted rows =
    let moved = IsPermutation-sort_by member_before rows in
    both_ways _ _
    (keep_limits-permutation (sort_by member_before rows) rows (IsPermutation-sym rows (sort_by member_before rows) moved))
    (keep_limits-permutation rows (sort_by member_before rows) moved)

members-sorted : (rows : List RegisterRow) → ascends_by member_before (sort_by member_before rows) ≡ differ_by same_member rows
members-sorted rows =
    let member : RegisterRow → List _ = λ (row : RegisterRow). row.member in
    both_ways _ _
    (λ up. sym (differ_by_key-IsPermutation nat_list_cmp_total member rows (sort_by member_before rows) (IsPermutation-sort_by member_before rows))
    ∙ differs-from_ascends_by nat_list_cmp_total member (sort_by member_before rows) up)
    (ascends-sort_by nat_list_cmp_total member rows)

-- they are a register once they stand in order, where they are such holdings
pub holdings-sorted : (rows : List RegisterRow) → is_register (sort_by member_before rows) ≡ are_holdings rows
holdings-sorted rows =
    ap (λ b. b && ascends_by member_before (sort_by member_before rows)) (limits-sorted rows)
    ∙ ap (λ b. keep_limits rows && b) (members-sorted rows)

-- the rows of a loaded register are the register of the rows
pub rows_checked-loaded : (rows : List RegisterRow) → rows_checked true rows ≡ register_of rows
rows_checked-loaded rows = ap (λ b. cond b (Some (sort_by member_before rows)) None) (holdings-sorted rows)

some_rows : (row : RegisterRow) (rows : List RegisterRow) → no_rows (insert_by member_before row rows) ≡ false
some_rows row [] = refl
some_rows row (first ∷ rest) =
    elim (member_before row first) as (λ b. no_rows (cond b (row ∷ first ∷ rest) (first ∷ insert_by member_before row rest)) ≡ false)
    [ true ↦ refl | false ↦ refl ]

-- and rows are too many
pub rows_checked-some : (rows : List RegisterRow) → (length rows == 0) ≡ false → rows_checked false rows ≡ None
rows_checked-some [] some = absurd (cc)
rows_checked-some (row ∷ rows) some = ap (λ b. cond b (Some (sort_by member_before (row ∷ rows))) None) (some_rows row (sort_by member_before rows))

-- a fault other than its limits is none that a register has
pub rows_checked-fault : (rows : List RegisterRow) (fault : ListFault) → (◌≡◌ {A = Result (List RegisterRow) ListFault} (Err fault) (Err Limit) → register_of rows ≡ None)
    → (◌≡◌ {A = Result (List RegisterRow) ListFault} (Err fault) (Err Memory) → ⊥) → rows_checked true rows ≡ None
rows_checked-fault rows Limit limit memory = rows_checked-loaded rows ∙ limit refl
rows_checked-fault rows Memory limit memory = absurd (memory refl)
