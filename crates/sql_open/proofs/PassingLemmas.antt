-- How many rows of a table pass tests of which each passes one at most, and what the records are of rows that each pass one.
use Rattle.std.proofs.Common.{◌≡◌, ◌≤◌, ◌+◌, ℕ, Bool, true, false, not, ◌||◌, if◌then◌else◌, List, [], ◌∷◌, ◌++◌, length, map, filter, Option, Some, None, refl, sym, ap, subst, ◌∙◌, true≢false, inl, inr, arith}
use Rattle.std.specs.Prelude.{is_some}
use Rattle.std.specs.List.{AllByRecursion, list_all, list_any}
use Rattle.std.proofs.lemmas.Bool.{and_parts, cases_Bool}
use Rattle.std.specs.Cmp.Derive.{both_true}
use Rattle.sqlite.specs.Order.{Row}
use Rattle.seq.specs.Ordered.{differ_by}
use Rattle.vocabulary.specs.OptionSteps.{◌>>=◌}
use Rattle.sql_rows.specs.Meanings.{all_meanings}
use Rattle.sql_schema.specs.Statements.{TableOf, columns_of}
use Rattle.sql_lemmas.proofs.GivenNumbers.{each_means}

-- ---- how many pass

module _ {X : Type 0} (test : X → Row → Bool) where
  -- how many of these rows pass a test
  abbrev pub passing : X → List Row → ℕ
  passing x rows = length (filter (test x) rows)

  -- how many pass each of these, together
  abbrev pub all_passing : List X → List Row → ℕ
  all_passing [] rows = 0
  all_passing (x ∷ xs) rows = passing x rows + all_passing xs rows

  -- the row passes one of them
  abbrev pub passes_one : List X → Row → Bool
  passes_one xs row = list_any (λ x. test x row) xs

  one_more : (x : X) (row : Row) (rows : List Row) → passing x (row ∷ rows) ≡ passing x (row ∷ []) + passing x rows
  one_more x row rows = elim (test x row) as (λ b. length (if b then row ∷ filter (test x) rows else filter (test x) rows) ≡ length (if b then row ∷ [] else []) + passing x rows) [ true ↦ omega arith | false ↦ omega arith ]

  row_more : (xs : List X) (row : Row) (rows : List Row) → all_passing xs (row ∷ rows) ≡ all_passing xs (row ∷ []) + all_passing xs rows
  row_more [] row rows = omega arith
  row_more (x ∷ xs) row rows =
      let first = one_more x row rows in
      let later = row_more xs row rows in
      omega (arith, first, later)

  of_no_row : (xs : List X) → all_passing xs [] ≡ 0
  of_no_row [] = refl
  of_no_row (x ∷ xs) = let none = of_no_row xs in omega (arith, none)

  -- more tests
  pub tests_more : (xs ys : List X) (rows : List Row) → all_passing (xs ++ ys) rows ≡ all_passing xs rows + all_passing ys rows
  tests_more [] ys rows = omega arith
  tests_more (x ∷ xs) ys rows = let rest = tests_more xs ys rows in omega (arith, rest)

  pub none_passes : (row : Row) (xs : List X) → passes_one xs row ≡ false → all_passing xs (row ∷ []) ≡ 0
  none_passes row [] none = refl
  none_passes row (x ∷ xs) none = go (test x row) none (none_passes row xs)
    where
      go : (b : Bool) → (b || passes_one xs row) ≡ false → (passes_one xs row ≡ false → all_passing xs (row ∷ []) ≡ 0) → length (if b then row ∷ [] else []) + all_passing xs (row ∷ []) ≡ 0
      go true h rest = absurd (true≢false h)
      go false h rest = let nothing = rest h in omega (arith, nothing)

  some_passes : (row : Row) (xs : List X) → passes_one xs row ≡ true → 1 ≤ all_passing xs (row ∷ [])
  some_passes row [] some = absurd (true≢false (sym some))
  some_passes row (x ∷ xs) some = go (test x row) some (some_passes row xs)
    where
      go : (b : Bool) → (b || passes_one xs row) ≡ true → (passes_one xs row ≡ true → 1 ≤ all_passing xs (row ∷ [])) → 1 ≤ length (if b then row ∷ [] else []) + all_passing xs (row ∷ [])
      go true h rest = omega arith
      go false h rest = let one = rest h in omega (arith, one)

  -- a row that passes a test passes no other but the same
  module _ (same : X → X → Bool) (row : Row) (others : (x y : X) → test x row ≡ true → test y row ≡ same x y) where
    others_any : (x : X) → test x row ≡ true → (xs : List X) → passes_one xs row ≡ list_any (same x) xs
    others_any x is [] = refl
    others_any x is (y ∷ xs) = ap (λ b. b || passes_one xs row) (others x y is) ∙ ap (λ b. same x y || b) (others_any x is xs)

    -- so of tests of which no two are the same it passes one at most
    pub passes_once : (xs : List X) → differ_by same xs ≡ true → all_passing xs (row ∷ []) ≤ 1
    passes_once [] apart = omega arith
    passes_once (x ∷ xs) apart =
        let parts = and_parts (not (list_any (same x) xs)) (differ_by same xs) apart in
        let later = passes_once xs parts.1 in
        go (test x row) refl (list_any (same x) xs) refl parts.0 later
      where
        go : (b : Bool) → test x row ≡ b → (twice : Bool) → list_any (same x) xs ≡ twice → not twice ≡ true → all_passing xs (row ∷ []) ≤ 1 → length (if b then row ∷ [] else []) + all_passing xs (row ∷ []) ≤ 1
        go true is true again alone later = absurd (true≢false (sym alone))
        go true is false once alone later = let none = none_passes row xs (others_any x is xs ∙ once) in omega (arith, none)
        go false is twice once alone later = omega (arith, later)

  module _ (xs : List X) where
    -- the row passes one of them at most
    abbrev pub Once : Row → Type 0
    Once row = all_passing xs (row ∷ []) ≤ 1

    pub no_more : (rows : List Row) → AllByRecursion Once rows → all_passing xs rows ≤ length rows
    no_more [] once = let none = of_no_row xs in omega (arith, none)
    no_more (row ∷ rows) once =
        let more = row_more xs row rows in
        let rest = no_more rows once.1 in
        let one = once.0 in
        omega (arith, more, rest, one)

    -- where as many pass as there are, each row passes one
    pub each_passes : (rows : List Row) → AllByRecursion Once rows → all_passing xs rows ≡ length rows → AllByRecursion (λ row. passes_one xs row ≡ true) rows
    each_passes [] once all = tt
    each_passes (row ∷ rows) once all =
        let more = row_more xs row rows in
        let rest = no_more rows once.1 in
        let one = once.0 in
        elim (cases_Bool (passes_one xs row)) [
          | inl is ↦ let some = some_passes row xs is in (is, each_passes rows once.1 (omega (arith, all, more, one, some, rest)))
          | inr other ↦ let none = none_passes row xs other in absurd (omega (arith, all, more, rest, none))
        ]

    -- and where each does, as many pass
    pub all_pass : (rows : List Row) → AllByRecursion Once rows → AllByRecursion (λ row. passes_one xs row ≡ true) rows → all_passing xs rows ≡ length rows
    all_pass [] once each = of_no_row xs
    all_pass (row ∷ rows) once each =
        let more = row_more xs row rows in
        let one = once.0 in
        let some = some_passes row xs each.0 in
        let rest = all_pass rows once.1 each.1 in
        omega (arith, more, one, some, rest)

-- what holds of any row holds of each
pub of_each : {P : Row → Type 0} → ((row : Row) → P row) → (rows : List Row) → AllByRecursion P rows
of_each one [] = tt
of_each one (row ∷ rows) = (one row, of_each one rows)

-- ---- what the rows mean

-- those of these rows that pass a test mean something
abbrev pub mean_of : {A : Type 0} → TableOf A → (Row → Bool) → List Row → Bool
mean_of it test rows = is_some (all_meanings it.means (map (columns_of it) (filter test rows)))

module _ {A X : Type 0} (it : TableOf A) (test : X → Row → Bool) where
  abbrev pub AllMean : List X → List Row → Type 0
  AllMean xs rows = AllByRecursion (λ x. mean_of it (test x) rows ≡ true) xs

  first_means : (row : Row) (rows : List Row) → is_some (all_meanings it.means (columns_of it row ∷ rows)) ≡ true → is_some (it.means (columns_of it row)) ≡ true
  first_means row rows = go (it.means (columns_of it row))
    where
      go : (o : Option A) → is_some (o >>= λ x. all_meanings it.means rows >>= λ rest. Some (x ∷ rest)) ≡ true → is_some o ≡ true
      go (Some x) h = refl
      go None h = h

  rest_means : (row : Row) (rows : List Row) → is_some (all_meanings it.means (row ∷ rows)) ≡ true → is_some (all_meanings it.means rows) ≡ true
  rest_means row rows = go (it.means row) (all_meanings it.means rows)
    where
      go : (o : Option A) (l : Option (List A)) → is_some (o >>= λ x. l >>= λ rest. Some (x ∷ rest)) ≡ true → is_some l ≡ true
      go (Some x) (Some l) h = refl
      go (Some x) None h = h
      go None (Some l) h = refl
      go None None h = h

  -- so a row that passes one of the tests means something
  pub row_means : (row : Row) (rows : List Row) (xs : List X) → AllMean xs (row ∷ rows) → passes_one test xs row ≡ true → is_some (it.means (columns_of it row)) ≡ true
  row_means row rows [] all passed = absurd (true≢false (sym passed))
  row_means row rows (x ∷ xs) all passed =
      (elim (test x row) as (λ b. is_some (all_meanings it.means (map (columns_of it) (if b then row ∷ filter (test x) rows else filter (test x) rows))) ≡ true → (b || passes_one test xs row) ≡ true → is_some (it.means (columns_of it row)) ≡ true) [
        | true ↦ λ here _. first_means row (map (columns_of it) (filter (test x) rows)) here
        | false ↦ λ _ there. row_means row rows xs all.1 there
      ]) all.0 passed

  pub later_mean : (row : Row) (rows : List Row) (xs : List X) → AllMean xs (row ∷ rows) → AllMean xs rows
  later_mean row rows [] all = tt
  later_mean row rows (x ∷ xs) all = (
    (elim (test x row) as (λ b. is_some (all_meanings it.means (map (columns_of it) (if b then row ∷ filter (test x) rows else filter (test x) rows))) ≡ true → mean_of it (test x) rows ≡ true) [
      | true ↦ rest_means (columns_of it row) (map (columns_of it) (filter (test x) rows))
      | false ↦ λ h. h
    ]) all.0,
    later_mean row rows xs all.1,
  )

  module _ (says : X → A → Bool) (agree : (x : X) (row : Row) (r : A) → it.means (columns_of it row) ≡ Some r → test x row ≡ says x r) where
    said_any : (row : Row) (r : A) → it.means (columns_of it row) ≡ Some r → (xs : List X) → passes_one test xs row ≡ list_any (λ x. says x r) xs
    said_any row r h [] = refl
    said_any row r h (x ∷ xs) = ap (λ b. b || passes_one test xs row) (agree x row r h) ∙ ap (λ b. says x r || b) (said_any row r h xs)

    -- where each row passes one of the tests, and those that do mean something, they are records of which one is said
    pub all_known : (xs : List X) (rows : List Row) → AllByRecursion (λ row. passes_one test xs row ≡ true) rows → AllMean xs rows
        → (was : List A) × (all_meanings it.means (map (columns_of it) rows) ≡ Some was) × (list_all (λ r. list_any (λ x. says x r) xs) was ≡ true)
    all_known xs [] each mean = ([], refl, refl)
    all_known xs (row ∷ rows) each mean =
        let rest = all_known xs rows each.1 (later_mean row rows xs mean) in
        go (it.means (columns_of it row)) refl (row_means row rows xs mean each.0) rest
      where
        go : (o : Option A) → it.means (columns_of it row) ≡ o → is_some o ≡ true → ((was : List A) × (all_meanings it.means (map (columns_of it) rows) ≡ Some was) × (list_all (λ r. list_any (λ x. says x r) xs) was ≡ true))
            → (was : List A) × (all_meanings it.means (map (columns_of it) (row ∷ rows)) ≡ Some was) × (list_all (λ r. list_any (λ x. says x r) xs) was ≡ true)
        go (Some r) is some rest = (
          r ∷ rest.0,
          rw (is, rest.1) refl,
          both_true (sym (said_any row r is xs) ∙ each.0) rest.2,
        )
        go None is some rest = absurd (true≢false (sym some))

    -- and of records of which one is said each row passes one
    pub rows_pass : (xs : List X) (rows : List Row) (was : List A) → all_meanings it.means (map (columns_of it) rows) ≡ Some was → list_all (λ r. list_any (λ x. says x r) xs) was ≡ true → AllByRecursion (λ row. passes_one test xs row ≡ true) rows
    rows_pass xs [] was held said = tt
    rows_pass xs (row ∷ rows) was held said =
        let each = each_means it.means (columns_of it row) (map (columns_of it) rows) was held in
        let both = and_parts (list_any (λ x. says x each.0) xs) (list_all (λ r. list_any (λ x. says x r) xs) each.1) (subst (λ l. list_all (λ r. list_any (λ x. says x r) xs) l ≡ true) each.4 said) in
        (said_any row each.0 each.2 xs ∙ both.0, rows_pass xs rows each.1 each.3 both.1)
