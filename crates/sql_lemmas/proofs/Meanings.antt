-- What rows mean, where one is added.
use Rattle.std.proofs.Common.{◌≡◌, List, [], ◌∷◌, ◌++◌, map, Option, Some, None, refl}
use Rattle.std.proofs.lemmas.List.{map-append}
use Rattle.vocabulary.specs.OptionSteps.{◌>>=◌}
use Rattle.sqlite.specs.Order.{Row}
use Rattle.sql_rows.specs.Meanings.{all_meanings}
use Rattle.sql_schema.specs.Statements.{TableOf, columns_of}

module _ {A : Type 0} (means : Row → Option A) where
  pub all_mean-append : (rows : List Row) (row : Row) (records : List A) (added : A) → all_meanings means rows ≡ Some records → means row ≡ Some added
      → all_meanings means (rows ++ row ∷ []) ≡ Some (records ++ added ∷ [])
  all_mean-append [] row records added h e = let none : [] ≡ records = cc in rw (e, ← none) refl
  all_mean-append (r ∷ rows) row records added h e = go (means r) (all_meanings means rows) refl refl h (λ rest it. all_mean-append rows row rest added it e)
    where
      go : (first : Option A) (later : Option (List A)) → means r ≡ first → all_meanings means rows ≡ later → (first >>= λ x. later >>= λ rest. Some (x ∷ rest)) ≡ Some records
          → ((rest : List A) → all_meanings means rows ≡ Some rest → all_meanings means (rows ++ row ∷ []) ≡ Some (rest ++ added ∷ [])) → all_meanings means (r ∷ (rows ++ row ∷ [])) ≡ Some (records ++ added ∷ [])
      go None later p q t next = absurd cc
      go (Some x) None p q t next = absurd cc
      go (Some x) (Some rest) p q t next = let same : x ∷ rest ≡ records = cc in rw (p, next rest q, ← same) refl

-- the records of a table with one row more
pub records_added : {A : Type 0} (table : TableOf A) (rows : List Row) (row : Row) (records : List A) (added : A) → all_meanings table.means (map (columns_of table) rows) ≡ Some records
    → table.means (columns_of table row) ≡ Some added → all_meanings table.means (map (columns_of table) (rows ++ row ∷ [])) ≡ Some (records ++ added ∷ [])
records_added table rows row records added h e = rw (map-append (columns_of table) rows (row ∷ [])) (all_mean-append table.means (map (columns_of table) rows) (columns_of table row) records added h e)
