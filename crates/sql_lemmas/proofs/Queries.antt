-- A query by a fixed statement: what it finds, and that it changes nothing.
use Rattle.std.proofs.Common.{◌≡◌, ◌⊎◌, ℕ, zero, suc, map, slice_index, List, [], ◌∷◌, ℤ, ◌==◌, Bool, true, false, ◌&&◌, if◌then◌else◌, Option, Some, None, Result, IfOk, IfErr, IsTrue, refl, ap₂, ◌∙◌}
use Rattle.std.proofs.Math.Bool.{and-true}
use Rattle.std.specs.Cmp.{first_so}
use Rattle.sqlite.specs.declared.error.Error.{Error}
use Rattle.sqlite.specs.declared.types.Value.{Value}
use Rattle.sqlite.specs.declared.types.Value.TheVariants.{Int, Null, Text}
use Rattle.sqlite.specs.Collation.TheVariants.{Binary}
use Rattle.sqlite.specs.Order.{Row, column}
use Rattle.sqlite.specs.Ops.{binary, is_true}
use Rattle.sqlite.specs.Term.{Term, col, op2, eval_all}
use Rattle.sqlite.specs.Program.{given_at}
use Rattle.sqlite.specs.Schema.{Schema}
use Rattle.sqlite.specs.Held.{Held, state}
use Rattle.sqlite.specs.Listing.{understood}
use Rattle.sqlite.specs.State.{HasCleanDisk, Shown, FailsToQuery, IsTooLate, Survives}
use Rattle.sqlite.proofs.Callers.{IsPlain}
use Rattle.sqlite_sql.specs.declared.ops.BinaryOp.TheVariants.{Compare}
use Rattle.sqlite_sql.specs.declared.ops.CompareOp.TheVariants.{Eq}
use Rattle.sqlite_trees.specs.declared.store.Store as store
use Rattle.vocabulary.specs.Names.{in_places, is_name, is_party, meeting_of, party_of, same_name}
use Rattle.sql_rows.specs.ColumnValues.{natural_of, natural_value, parsed_of}
use Rattle.sql_schema.specs.Statements.{ChangesNothing, FindsRecords, HasTables, IsRead, TableOf, columns_of, has_table, layout_two}
use Rattle.sql_lemmas.proofs.Commits.{query_keeps, query_opened}
use Rattle.sql_lemmas.proofs.Deleting.{passes}
use Rattle.sql_lemmas.proofs.Reading.{AsksAs, finds, sought}
use Rattle.sql_lemmas.proofs.Tests.{names_decide, numbers_decide}

-- ---- the tests of WHERE

-- the first parameter is the meeting that the column names
abbrev pub names_meeting : ℕ → List Term
names_meeting at = op2 (Compare Eq Binary) (col 1 at) (col 0 0) ∷ []

-- and the second is the party that another column names
abbrev pub names_both : ℕ → ℕ → List Term
names_both at other = op2 (Compare Eq Binary) (col 1 at) (col 0 0) ∷ op2 (Compare Eq Binary) (col 1 other) (col 0 1) ∷ []

-- and the third is the party that a further column names
abbrev pub names_three : ℕ → ℕ → ℕ → List Term
names_three at other third = op2 (Compare Eq Binary) (col 1 at) (col 0 0) ∷ op2 (Compare Eq Binary) (col 1 other) (col 0 1) ∷ op2 (Compare Eq Binary) (col 1 third) (col 0 2) ∷ []

-- a party's name has the form of a meeting's
party_name : (bytes name : List ℕ) → party_of bytes ≡ Some name → meeting_of bytes ≡ Some name
party_name bytes name h = go (is_party bytes) (is_name bytes) (λ is. first_so (is_name bytes) _ is) h
  where
    go : (party any : Bool) → (party ≡ true → any ≡ true) → ◌≡◌ {A = Option (List ℕ)} (if party then Some (in_places 16 bytes) else None) (Some name)
        → ◌≡◌ {A = Option (List ℕ)} (if any then Some (in_places 16 bytes) else None) (Some name)
    go true any is h = rw (is refl) h
    go false any is h = absurd cc

-- so a row is chosen by a party's name exactly where it names that party
parties_decide : (v : Value) (s m n : List ℕ) → parsed_of party_of v ≡ Some m → party_of s ≡ Some n → is_true (binary (Compare Eq Binary) v (Text s)) ≡ same_name m n
parties_decide (Text t) s m n h k = names_decide (Text t) s m n (party_name t m h) (party_name s n k)
parties_decide v s m n h k = absurd cc

pub one_decides : (cells : Row) (at : ℕ) (s m a : List ℕ) → parsed_of meeting_of (column cells at) ≡ Some a → meeting_of s ≡ Some m → passes (names_meeting at) (Text s ∷ []) cells ≡ same_name a m
one_decides cells at s m a here is = and-true _ ∙ names_decide (column cells at) s a m here is

pub both_decide : (cells : Row) (at other : ℕ) (s m t n a b : List ℕ) → parsed_of meeting_of (column cells at) ≡ Some a → meeting_of s ≡ Some m → parsed_of party_of (column cells other) ≡ Some b → party_of t ≡ Some n
    → passes (names_both at other) (Text s ∷ Text t ∷ []) cells ≡ (same_name a m && same_name b n)
both_decide cells at other s m t n a b here is there party = ap₂ ◌&&◌ (names_decide (column cells at) s a m here is) (and-true _ ∙ parties_decide (column cells other) t b n there party)

pub three_decide : (cells : Row) (at other third : ℕ) (s m t n u p a b d : List ℕ) → parsed_of meeting_of (column cells at) ≡ Some a → meeting_of s ≡ Some m → parsed_of party_of (column cells other) ≡ Some b → party_of t ≡ Some n
    → parsed_of party_of (column cells third) ≡ Some d → party_of u ≡ Some p → passes (names_three at other third) (Text s ∷ Text t ∷ Text u ∷ []) cells ≡ (same_name a m && (same_name b n && same_name d p))
three_decide cells at other third s m t n u p a b d here is there party last proxy =
    ap₂ ◌&&◌ (names_decide (column cells at) s a m here is) (ap₂ ◌&&◌ (parties_decide (column cells other) t b n there party) (and-true _ ∙ parties_decide (column cells third) u d p last proxy))

-- the second parameter is a number
pub number_decides : (cells : Row) (at other : ℕ) (s m a : List ℕ) (z : ℤ) (k b : ℕ) → parsed_of meeting_of (column cells at) ≡ Some a → meeting_of s ≡ Some m → natural_value (column cells other) ≡ Some b → natural_of z ≡ Some k
    → passes (names_both at other) (Text s ∷ Int z ∷ []) cells ≡ (same_name a m && b == k)
number_decides cells at other s m a z k b here is there number = ap₂ ◌&&◌ (names_decide (column cells at) s a m here is) (and-true _ ∙ numbers_decide (column cells other) z b k there number)

-- the third parameter is a number
pub numbered_decide : (cells : Row) (at other third : ℕ) (s m t n a b : List ℕ) (z : ℤ) (k d : ℕ) → parsed_of meeting_of (column cells at) ≡ Some a → meeting_of s ≡ Some m → parsed_of party_of (column cells other) ≡ Some b → party_of t ≡ Some n
    → natural_value (column cells third) ≡ Some d → natural_of z ≡ Some k → passes (names_three at other third) (Text s ∷ Text t ∷ Int z ∷ []) cells ≡ (same_name a m && (same_name b n && d == k))
numbered_decide cells at other third s m t n a b z k d here is there party last number =
    ap₂ ◌&&◌ (names_decide (column cells at) s a m here is) (ap₂ ◌&&◌ (parties_decide (column cells other) t b n there party) (and-true _ ∙ numbers_decide (column cells third) z d k last number))

-- ---- a query

-- the statement asks, in order of their numbers, for all columns of the rows whose record passes the test
pub record IsQuery {A : Type 0} (it : TableOf A) (sql : List ℕ) (params : Row) (test : A → Bool) : Type 0 where
  pub tests : List Term
  pub project : List Term
  pub names : List (List ℕ)
  pub asks : (s : Schema) → HasTables layout_two s → AsksAs s sql (sought it.number tests project) names
  pub none : given_at [] it.number ≡ None
  pub numbered : IsTrue (has_table layout_two it.number)
  pub columns : (row : Row) → eval_all project (params ∷ row ∷ []) ≡ columns_of it row
  pub same : (row : Row) (x : A) → it.means (columns_of it row) ≡ Some x → passes tests params row ≡ test x

-- a query changes nothing
pub asked_alone : {S V : Type 0} (g : store.Ghosts S) (a b : Held S) (items : V → List Row) (sql : List ℕ) (params : Row) (r : Result V Error) → (IsRead g a b → IsPlain (understood (state g a).now.schema sql))
    → (HasCleanDisk (state g b) → IfOk r (λ v. Shown sql params (state g a) (state g b) (items v)))
    → (HasCleanDisk (state g b) → IfErr r (λ e. FailsToQuery sql params (state g a) (state g b) e ⊎ IsTooLate sql params (state g a) (state g b) e))
    → Survives (state g a) (state g b) (λ _. ⊥) → ChangesNothing g a b
asked_alone g a b items sql params r plain ok err crash = record {
  preserved = λ read. query_keeps items sql params (state g a) (state g b) (state g a).now.schema (plain read) r refl (ok read.0) (err read.0);
  was_open = λ clean. query_opened items sql params (state g a) (state g b) r (ok clean) (err clean);
  crash = crash;
}

module _ {S V A : Type 0} (g : store.Ghosts S) (a b : Held S) (items : V → List Row) (r : Result V Error) {it : TableOf A} {sql : List ℕ} {params : Row} {test : A → Bool} (q : IsQuery it sql params test)
    (ok : HasCleanDisk (state g b) → IfOk r (λ v. Shown sql params (state g a) (state g b) (items v))) where
  pub finds_rows : IsRead g a b → IfOk r (λ v. FindsRecords g a b it test (items v))
  finds_rows read =
      finds layout_two items it q.tests q.project q.names sql params test q.asks q.none q.numbered q.columns q.same (state g a) (state g b) r read.1 (ok read.0)

  pub nothing_changed : (HasCleanDisk (state g b) → IfErr r (λ e. FailsToQuery sql params (state g a) (state g b) e ⊎ IsTooLate sql params (state g a) (state g b) e))
      → Survives (state g a) (state g b) (λ _. ⊥) → ChangesNothing g a b
  nothing_changed = asked_alone g a b items sql params r (λ read. (q.asks (state g a).now.schema read.1.schema).plain) ok

-- what is read in a column that is shown stands in the column of the row
pub shown_in : {B : Type 0} (read : Value → Option B) → read Null ≡ None → (row : Row) (columns : List ℕ) (k : ℕ) (b : B) → read (column (map (column row) columns) k) ≡ Some b → read (column row (slice_index columns k)) ≡ Some b
shown_in read none row [] k b h = absurd cc
shown_in read none row (place ∷ columns) zero b h = h
shown_in read none row (place ∷ columns) (suc k) b h = shown_in read none row columns k b h
