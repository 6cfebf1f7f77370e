-- Rows that spell themselves, and are then found to be such as there may be.
use Rattle.std.proofs.Common.{◌≡◌, ℕ, ◌+◌, ◌≤◌, Bool, true, false, not, cond, List, [], ◌∷◌, ◌++◌, length, Some, None, Result, Ok, Err, refl, sym, ap, ◌∙◌, arith, fold, append_assoc}
use Rattle.std.specs.Prelude.{◌==◌, nat_le, IfOk, IfSome, IsPermutation}
use Rattle.std.specs.Result.{result_ok}
use Rattle.std.specs.Cmp.{first_so, second_so}
use Rattle.std.specs.List.{list_any}
use Rattle.std.proofs.lemmas.Bool.Decides.{nat_tests}
use Rattle.std.proofs.lemmas.List.Sums.{sum_by-append}
use Rattle.std.proofs.lemmas.Bool.{and_from, not-true, or_parts}
use Rattle.seq.specs.Ordered.{differ_by}
use Rattle.seq.specs.Sorting.{sort_by}
use Rattle.seq.proofs.Ascending.{differ_by_key-IsPermutation}
use Rattle.seq.proofs.SortingLemmas.{IsPermutation-sort_by, ascends-sort_by, sort_by-ascending}
use Rattle.desk_words.proofs.RegisterLimits.{keep_limits-permutation}
use Rattle.std.specs.Cmp.Lexicographic.{nat_list_cmp_total}
use Rattle.std.proofs.lemmas.List.Sorted.{IsPermutation-sym, IsPermutation-trans}
use Rattle.desk_words.specs.Registers.{all_shares, are_holdings, keep_limits, member_before, register_of, same_member}
use Rattle.desk_words.specs.declared.records.RegisterRow.{RegisterRow}
use Rattle.desk_words.specs.declared.limits.TheConstants.{MOST_SHARES}
use Rattle.csv_import.specs.declared.fault.FileError.{FileError}
use Rattle.csv_import.specs.declared.fault.FileError.TheVariants.{BadRow}
use Rattle.csv_import.specs.declared.fault.Why.TheVariants as why
use Rattle.vocabulary.specs.ResultSteps.{◌>>=◌}
use Rattle.csv_import.specs.RegisterFiles.{as_register, is_register_header, next_row, parsed_row_after, register_file}
use Rattle.csv_import.specs.CsvTables.{records_of, parsed_rows, table_of, under_header}
use Rattle.csv_import.proofs.FileRowLemmas.{after_record, after-fault, rows-grow, under-header-ok}

-- a row as its record spells it, after those so far
abbrev pub as_spelled : ℕ → List RegisterRow → List (List ℕ) → Result RegisterRow FileError
as_spelled line found fields = parsed_row_after line (length found) fields

-- of values that differ none is like one that stands behind it
differ-before : {X : Type 0} (alike : X → X → Bool) (xs : List X) (y : X) (more : List X) → differ_by alike (xs ++ y ∷ more) ≡ true → list_any (λ x. alike x y) xs ≡ false
differ-before alike [] y more h = refl
differ-before alike (x ∷ xs) y more h =
    let alone = not-true (list_any (alike x) (xs ++ y ∷ more)) (first_so (not (list_any (alike x) (xs ++ y ∷ more))) (differ_by alike (xs ++ y ∷ more)) h) in
    let rest = differ-before alike xs y more (second_so (not (list_any (alike x) (xs ++ y ∷ more))) (differ_by alike (xs ++ y ∷ more)) h) in
    rw (unlike (alike x) xs y more alone, rest) refl
  where
    unlike : {X : Type 0} (p : X → Bool) (xs : List X) (y : X) (more : List X) → list_any p (xs ++ y ∷ more) ≡ false → p y ≡ false
    unlike p [] y more h = (or_parts (p y) (list_any p more) h).0
    unlike p (x ∷ xs) y more h = unlike p xs y more (or_parts (p x) (list_any p (xs ++ y ∷ more)) h).1

below : (n : ℕ) → n ≤ MOST_SHARES → nat_le n MOST_SHARES ≡ true
below n h = grind (arith, nat_tests)

-- a row that spells itself, and is another member's, and with which there are no more shares than there may be, is the next
next-of_spelled : (line : ℕ) (found more : List RegisterRow) (fields : List (List ℕ)) (row : RegisterRow) → as_spelled line found fields ≡ Ok row → are_holdings (found ++ row ∷ more) ≡ true
    → next_row line found fields ≡ Ok row
unfolding next_row
next-of_spelled line found more fields row is holdings =
    let differ = second_so (keep_limits (found ++ row ∷ more)) (differ_by same_member (found ++ row ∷ more)) holdings in
    let other : list_any (λ earlier. same_member earlier row) found ≡ false = differ-before same_member found row more differ in
    let limits = first_so (keep_limits (found ++ row ∷ more)) (differ_by same_member (found ++ row ∷ more)) holdings in
    let few : nat_le (all_shares (found ++ row ∷ more)) MOST_SHARES ≡ true = second_so _ (nat_le (all_shares (found ++ row ∷ more)) MOST_SHARES) limits in
    let whole : all_shares (found ++ row ∷ more) ≡ all_shares found + all_shares (row ∷ more) = sum_by-append (λ (r : RegisterRow). r.shares) found (row ∷ more) in
    let part : all_shares (found ++ row ∷ []) ≡ all_shares found + all_shares (row ∷ []) = sum_by-append (λ (r : RegisterRow). r.shares) found (row ∷ []) in
    let behind : all_shares (row ∷ more) ≡ all_shares (row ∷ []) + all_shares more = sum_by-append (λ (r : RegisterRow). r.shares) (row ∷ []) more in
    let small : all_shares (found ++ row ∷ more) ≤ MOST_SHARES = grind (arith, nat_tests) in
    let fits : nat_le (all_shares (found ++ row ∷ [])) MOST_SHARES ≡ true = below (all_shares (found ++ row ∷ [])) (omega (arith, whole, part, behind, small)) in
    rw (is, other, fits)

spelled-step : (fields : List (List ℕ)) (table : List (List (List ℕ))) (found rows : List RegisterRow) (next : Result RegisterRow FileError) → as_spelled (length found + 2) found fields ≡ next
    → are_holdings rows ≡ true → fold (after_record is_register_header as_spelled) (Ok (Some found)) (fields ∷ table) ≡ Ok (Some rows)
    → ((found' : List RegisterRow) → fold (after_record is_register_header as_spelled) (Ok (Some found')) table ≡ Ok (Some rows) → fold (after_record is_register_header next_row) (Ok (Some found')) table ≡ Ok (Some rows))
    → fold (after_record is_register_header next_row) (Ok (Some found)) (fields ∷ table) ≡ Ok (Some rows)
spelled-step fields table found rows (Ok row) is holdings h rest =
    let further : fold (after_record is_register_header as_spelled) (Ok (Some (found ++ row ∷ []))) table ≡ Ok (Some rows) =
    sym (ap (λ next. fold (after_record is_register_header as_spelled) ((next >>= λ r. Ok (found ++ r ∷ [])) >>= λ rows. Ok (Some rows)) table) is) ∙ h in
    let grown = rows-grow is_register_header as_spelled table (found ++ row ∷ []) rows further in
    let same : rows ≡ found ++ row ∷ grown.0 = grown.1 ∙ append_assoc found (row ∷ []) grown.0 in
    let next = next-of_spelled (length found + 2) found grown.0 fields row is (sym (ap are_holdings same) ∙ holdings) in
    ap (λ next. fold (after_record is_register_header next_row) ((next >>= λ r. Ok (found ++ r ∷ [])) >>= λ rows. Ok (Some rows)) table) next ∙ rest (found ++ row ∷ []) further
spelled-step fields table found rows (Err fault) is holdings h rest =
    let stops : Err fault ≡ Ok (Some rows) =
    sym (after-fault is_register_header as_spelled fault table)
    ∙ sym (ap (λ next. fold (after_record is_register_header as_spelled) ((next >>= λ r. Ok (found ++ r ∷ [])) >>= λ rows. Ok (Some rows)) table) is) ∙ h in
    absurd (cc)

spelled-under : (table : List (List (List ℕ))) (found rows : List RegisterRow) → are_holdings rows ≡ true → fold (after_record is_register_header as_spelled) (Ok (Some found)) table ≡ Ok (Some rows)
    → fold (after_record is_register_header next_row) (Ok (Some found)) table ≡ Ok (Some rows)
spelled-under [] found rows holdings h = h
spelled-under (fields ∷ table) found rows holdings h =
    spelled-step fields table found rows (as_spelled (length found + 2) found fields) refl holdings h (λ found' further. spelled-under table found' rows holdings further)

header-step : (header : Bool) (table : List (List (List ℕ))) (rows : List RegisterRow) → are_holdings rows ≡ true
    → fold (after_record is_register_header as_spelled) (cond header (Ok (Some [])) (Err (BadRow 1 why.Header))) table ≡ Ok (Some rows)
    → fold (after_record is_register_header next_row) (cond header (Ok (Some [])) (Err (BadRow 1 why.Header))) table ≡ Ok (Some rows)
header-step true table rows holdings h = spelled-under table [] rows holdings h
header-step false table rows holdings h =
    let stops : Err (BadRow 1 why.Header) ≡ Ok (Some rows) = sym (after-fault is_register_header as_spelled (BadRow 1 why.Header) table) ∙ h in
    absurd (cc)

-- rows that spell themselves, and are holdings, are the rows of the table
rows-of_spelled : (table : List (List (List ℕ))) (rows : List RegisterRow) → are_holdings rows ≡ true → parsed_rows is_register_header as_spelled table ≡ Ok (Some rows) → parsed_rows is_register_header next_row table ≡ Ok (Some rows)
rows-of_spelled [] rows holdings h = absurd (cc)
rows-of_spelled (fields ∷ table) rows holdings h = header-step (is_register_header fields) table rows holdings h

holdings-if : (b : Bool) (sorted register : List RegisterRow) → cond b (Some sorted) None ≡ Some register → (b ≡ true) × (sorted ≡ register)
holdings-if true sorted register h = (refl, (let same : sorted ≡ register = cc in same))
holdings-if false sorted register h = absurd (cc)

some-row : (rows : List RegisterRow) → keep_limits rows ≡ true → as_register rows ≡ Ok (sort_by member_before rows)
some-row [] h = absurd (cc)
some-row (row ∷ rows) h =
    let some : (length (row ∷ rows) == 0) ≡ false = grind (arith, nat_tests) in
    rw some refl

-- the register of rows that spell themselves is that of the file
faultless : (bytes : List ℕ) (rows register : List RegisterRow) → table_of is_register_header as_spelled bytes ≡ Ok rows → register_of rows ≡ Some register → register_file bytes ≡ Ok register
unfolding register_file
faultless bytes rows register table is =
    let both = holdings-if (are_holdings rows) (sort_by member_before rows) register is in
    let found = under-header-ok (parsed_rows is_register_header as_spelled (records_of bytes)) rows table in
    let judged = rows-of_spelled (records_of bytes) rows both.0 found in
    ap (λ found. (found >>= under_header) >>= as_register) judged
    ∙ some-row rows (first_so (keep_limits rows) (differ_by same_member rows) both.0)
    ∙ ap (λ rows. Ok rows) both.1

-- the register of some rows is that of the same rows in another order
register_of-moved : (rows ordered register : List RegisterRow) → IsPermutation rows ordered → register_of ordered ≡ Some register → register_of rows ≡ Some register
register_of-moved rows ordered register moved is =
    let both = holdings-if (are_holdings ordered) (sort_by member_before ordered) register is in
    let limits = first_so (keep_limits ordered) (differ_by same_member ordered) both.0 in
    let differ = second_so (keep_limits ordered) (differ_by same_member ordered) both.0 in
    let limits' : keep_limits rows ≡ true = keep_limits-permutation ordered rows (IsPermutation-sym rows ordered moved) limits in
    let differ' : differ_by same_member rows ≡ true = sym (differ_by_key-IsPermutation nat_list_cmp_total (λ (row : RegisterRow). row.member) rows ordered moved) ∙ differ in
    let up = ascends-sort_by nat_list_cmp_total (λ (row : RegisterRow). row.member) ordered differ in
    let together = IsPermutation-trans rows ordered (sort_by member_before ordered) moved (IsPermutation-sort_by member_before ordered) in
    let same : sort_by member_before ordered ≡ sort_by member_before rows = sort_by-ascending nat_list_cmp_total (λ (row : RegisterRow). row.member) rows (sort_by member_before ordered) together up in
    ap (λ b. cond b (Some (sort_by member_before rows)) None) (and_from _ _ limits' differ')
    ∙ ap (λ sorted. Some sorted) (sym same ∙ both.1)

-- the register of a file, where its rows, in whatever order, make one
pub faultless-if : {E : Type 0} (bytes : List ℕ) (rows ordered : List RegisterRow) (made : Result (List RegisterRow) E) → table_of is_register_header as_spelled bytes ≡ Ok rows → IsPermutation rows ordered
    → IfOk made (λ register. register_of ordered ≡ Some register) → IfSome (result_ok made) (λ register. register_file bytes ≡ Ok register)
faultless-if bytes rows ordered (Ok register) table moved is = faultless bytes rows register table (register_of-moved rows ordered register moved is)
faultless-if bytes rows ordered (Err fault) table moved is = tt
