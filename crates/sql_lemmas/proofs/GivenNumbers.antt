-- Rows whose numbers are what they keep: the closed days, and the one row of the version.
use Rattle.std.proofs.Common.{◌≡◌, ℕ, ℤ, pos, negsuc, ◌+ℤ◌, ◌<ℤ◌, ◌<◌, List, [], ◌∷◌, Bool, true, false, if◌then◌else◌, nat_lt, nat_le, map, Option, Some, None, IsTrue, Less, refl, sym, ap, subst, ◌∙◌, arith, true≢false}
use Rattle.std.specs.List.{AllByRecursion, list_all}
use Rattle.std.specs.Cmp.{int_cmp_is}
use Rattle.std.proofs.lemmas.Bool.{and_parts}
use Rattle.std.proofs.lemmas.Bool.Decides.{nat_tests}
use Rattle.std.proofs.lemmas.Int.{ints}
use Rattle.vocabulary.specs.OptionSteps.{◌>>=◌}
use Rattle.sqlite.specs.declared.types.Value.TheVariants.{Int}
use Rattle.sqlite.specs.Order.{Row, value_cmp}
use Rattle.sqlite.specs.Tree.{rowid}
use Rattle.sqlite.specs.Edit.{id_in}
use Rattle.sqlite_value.proofs.OrderLemmas.{value_cmp-Int}
use Rattle.sqlite_trees.specs.View.{is_int}
use Rattle.sql_rows.specs.ColumnValues.{integer_of, unix_day, up_to, natural_of, day_in}
use Rattle.sql_rows.specs.Meanings.{all_meanings}
use Rattle.sql_rows.specs.DeskRows.{closed_in}
use Rattle.sql_schema.specs.Statements.{TableOf, columns_of, IsRising}
use Rattle.sql_schema.specs.Contents.{closed}
use Rattle.sql_lemmas.proofs.Seq.{IsBelow, is_its_id}

-- what each row means, of rows that mean a list
pub each_means : {A : Type 0} (means : Row → Option A) (row : Row) (rows : List Row) (was : List A) → all_meanings means (row ∷ rows) ≡ Some was
    → (first : A) × (rest : List A) × (means row ≡ Some first) × (all_meanings means rows ≡ Some rest) × (was ≡ first ∷ rest)
each_means {A} means row rows was h = go (means row) (all_meanings means rows) refl refl h
  where
    go : (first : Option A) (later : Option (List A)) → means row ≡ first → all_meanings means rows ≡ later → (first >>= λ x. later >>= λ rest. Some (x ∷ rest)) ≡ Some was
        → (x : A) × (rest : List A) × (means row ≡ Some x) × (all_meanings means rows ≡ Some rest) × (was ≡ x ∷ rest)
    go None later p q t = absurd cc
    go (Some x) None p q t = absurd cc
    go (Some x) (Some rest) p q t = let same : x ∷ rest ≡ was = cc in (x, rest, p, q, sym same)

-- where no record passes, there is no row
pub none_below : {A : Type 0} (table : TableOf A) (rows : List Row) (was : List A) (id : ℤ) → all_meanings table.means (map (columns_of table) rows) ≡ Some was → IsTrue (list_all (λ _. false) was) → AllByRecursion (IsBelow id) rows
none_below table [] was id h none = tt
none_below {A} table (row ∷ rows) was id h none =
    let it = each_means table.means (columns_of table row) (map (columns_of table) rows) was h in
    let all : list_all (λ (x : A). false) (it.0 ∷ it.1) ≡ true = subst (λ (l : List A). list_all (λ (x : A). false) l ≡ true) it.4 none in
    absurd (true≢false (sym all))

day_is : (k : ℤ) (d : ℕ) → unix_day k ≡ Some d → k +ℤ pos 25567 ≡ pos d
day_is k d h = go (k +ℤ pos 25567) h
  where
    preserved : (n : ℕ) (b : Bool) → ◌≡◌ {A = Option ℕ} (if b then Some n else None) (Some d) → n ≡ d
    preserved n true e = cc
    preserved n false e = absurd cc

    go : (z : ℤ) → (natural_of z >>= up_to 401766) ≡ Some d → z ≡ pos d
    go (pos n) e = ap pos (preserved n (nat_le n 401766) e)
    go (negsuc n) e = absurd cc

earlier : (k n : ℤ) (d day : ℕ) → k +ℤ pos 25567 ≡ pos d → n +ℤ pos 25567 ≡ pos day → nat_lt d day ≡ true → k <ℤ n
earlier k n d day a b h = let less : d < day = grind (arith, nat_tests) in omega (arith, ints)

-- where each day is earlier, the number of each row is lower
pub days_below : (rows : List Row) (was : List ℕ) (n : ℤ) (day : ℕ) → IsRising rows → unix_day n ≡ Some day → all_meanings closed.means (map (columns_of closed) rows) ≡ Some was → IsTrue (list_all (λ d. nat_lt d day) was) → AllByRecursion (IsBelow n) rows
unfolding closed_in day_in
days_below rows was n day up is h all = go rows was up.1 h all
  where
    go : (rows : List Row) (was : List ℕ) → AllByRecursion (λ r. IsTrue (is_int (rowid r))) rows → all_meanings closed.means (map (columns_of closed) rows) ≡ Some was → IsTrue (list_all (λ d. nat_lt d day) was) → AllByRecursion (IsBelow n) rows
    go [] was keyed h all = tt
    go (row ∷ rows) was keyed h all =
        let it = each_means closed.means (columns_of closed row) (map (columns_of closed) rows) was h in
        let passed = and_parts (nat_lt it.0 day) (list_all (λ d. nat_lt d day) it.1) (subst (λ l. list_all (λ d. nat_lt d day) l ≡ true) it.4 all) in
        let known : unix_day (id_in (rowid row)) ≡ Some it.0 = subst (λ v. (integer_of v >>= unix_day) ≡ Some it.0) (is_its_id row keyed.0) it.2 in
        let less = earlier (id_in (rowid row)) n it.0 day (day_is (id_in (rowid row)) it.0 known) (day_is n day is) passed.0 in
        (subst (λ v. value_cmp v (Int n) ≡ Less) (sym (is_its_id row keyed.0)) (value_cmp-Int (id_in (rowid row)) n ∙ sym (int_cmp_is (id_in (rowid row)) n Less less)), go rows it.1 keyed.1 it.3 passed.1)
