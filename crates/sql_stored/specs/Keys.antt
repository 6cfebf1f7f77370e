-- By what rows are found: the tests of a statement, its parameters, and what the columns hold.
use Rattle.std.specs.Prelude.{◌≡◌, ◌⊎◌, ℕ, ℤ, List, [], ◌∷◌, Option, Some, Result, Err, IfOk, IfErr, ◌++◌, codes, slice_index, slice_index_or}
use Rattle.sqlite.specs.declared.error.Error.{Error}
use Rattle.sqlite.specs.declared.types.Value.TheVariants.{Int, Text}
use Rattle.sqlite.specs.Collation.TheVariants.{Binary}
use Rattle.sqlite.specs.Held.{Held, state}
use Rattle.sqlite.specs.Order.{Row}
use Rattle.sqlite.specs.State.{FailsToQuery, HasCleanDisk, IsTooLate, Shown, Survives}
use Rattle.sqlite.specs.Schema.{Schema}
use Rattle.sqlite.specs.Table.{Table}
use Rattle.sqlite.specs.Term.{Term, col, op2}
use Rattle.sqlite_sql.specs.declared.ops.BinaryOp.TheVariants.{Compare}
use Rattle.sqlite_sql.specs.declared.ops.CompareOp.TheVariants.{Eq}
use Rattle.sqlite_trees.specs.declared.store.Store as store
use Rattle.sqlite_resolve.specs.Compile.{first}
use Rattle.sql_lemmas.proofs.Asking.{Asks}
use Rattle.sql_lemmas.proofs.Listing.{shown_terms}
use Rattle.sql_lemmas.proofs.Reading.{AsksAs, sought}
use Rattle.sql_schema.specs.SqlTexts.{finding_text, given_names, parameters}
use Rattle.sql_schema.specs.Statements.{HasTables, TableOf, layout_two}
use Rattle.sql_rows.specs.ColumnValues.{natural_of, number_in, parsed_in}
use Rattle.vocabulary.specs.Names.{meeting_of, party_of}

-- ---- tests: of these columns of a table, which a row shows, those at these places

-- the column at one of the places is the parameter of that number, from 0
abbrev pub test_at : List ℕ → List ℕ → ℕ → Term
test_at columns places at =
    op2 (Compare Eq Binary) (col 1 (slice_index columns (slice_index places at))) (col 0 at)

abbrev pub first_test : List ℕ → List ℕ → List Term
first_test columns places = test_at columns places 0 ∷ []

abbrev pub both_tests : List ℕ → List ℕ → List Term
both_tests columns places = test_at columns places 0 ∷ test_at columns places 1 ∷ []

abbrev pub three_tests : List ℕ → List ℕ → List Term
three_tests columns places =
    test_at columns places 0 ∷ test_at columns places 1 ∷ test_at columns places 2 ∷ []

-- the column at a place is this parameter
abbrev pub test_text : Table → ℕ → List ℕ → List ℕ
test_text table place parameter =
    slice_index_or (given_names table) place [] ++ codes " = " ++ parameter

-- the columns at the places are the parameters in their order
abbrev pub tests_text : Table → List ℕ → List (List ℕ) → List ℕ
tests_text table (place ∷ next ∷ places) (parameter ∷ others) =
    test_text table place parameter ++ codes " AND " ++ tests_text table (next ∷ places) others
tests_text table (place ∷ []) (parameter ∷ others) = test_text table place parameter
tests_text table _ _ = []

-- shows the rows that hold what is passed at these places
abbrev pub keyed_text : Table → List ℕ → List ℕ
keyed_text table places = finding_text table (tests_text table places parameters)

-- ---- parameters

-- they name a meeting
pub record NamesMeeting (m : List ℕ) (params : Row) : Type 0 where
  pub meeting : List ℕ
  pub is : params ≡ Text meeting ∷ []
  pub named : meeting_of meeting ≡ Some m

-- they name a meeting and a party
pub record NamesParty (m n : List ℕ) (params : Row) : Type 0 where
  pub meeting : List ℕ
  pub party : List ℕ
  pub is : params ≡ Text meeting ∷ Text party ∷ []
  pub named : meeting_of meeting ≡ Some m
  pub of : party_of party ≡ Some n

-- they name a meeting and a number
pub record NamesNumber (m : List ℕ) (n : ℕ) (params : Row) : Type 0 where
  pub meeting : List ℕ
  pub number : ℤ
  pub is : params ≡ Text meeting ∷ Int number ∷ []
  pub named : meeting_of meeting ≡ Some m
  pub of : natural_of number ≡ Some n

-- they name a meeting and two parties
pub record NamesParties (m n p : List ℕ) (params : Row) : Type 0 where
  pub meeting : List ℕ
  pub party : List ℕ
  pub other : List ℕ
  pub is : params ≡ Text meeting ∷ Text party ∷ Text other ∷ []
  pub named : meeting_of meeting ≡ Some m
  pub of : party_of party ≡ Some n
  pub with : party_of other ≡ Some p

-- they name a meeting, a party and a number
pub record NamesNumbered (m n : List ℕ) (k : ℕ) (params : Row) : Type 0 where
  pub meeting : List ℕ
  pub party : List ℕ
  pub number : ℤ
  pub is : params ≡ Text meeting ∷ Text party ∷ Int number ∷ []
  pub named : meeting_of meeting ≡ Some m
  pub of : party_of party ≡ Some n
  pub with : natural_of number ≡ Some k

-- ---- what the shown columns of a row hold

-- that at one of the places a name
abbrev pub HoldsName : (List ℕ → Option (List ℕ)) → Row → List ℕ → ℕ → List ℕ → Type 0
HoldsName reading cells places at name =
    parsed_in reading cells (slice_index places at) ≡ Some name

-- that at one of the places a number
abbrev pub HoldsNumber : Row → List ℕ → ℕ → ℕ → Type 0
HoldsNumber cells places at number = number_in cells (slice_index places at) ≡ Some number

-- those at the places the parts of a key
abbrev pub HoldMeeting : Row → List ℕ → List ℕ → Type 0
HoldMeeting cells places key = HoldsName meeting_of cells places 0 key

abbrev pub HoldParty : Row → List ℕ → List ℕ × List ℕ → Type 0
HoldParty cells places key =
    HoldsName meeting_of cells places 0 key.0 × HoldsName party_of cells places 1 key.1

abbrev pub HoldNumber : Row → List ℕ → List ℕ × ℕ → Type 0
HoldNumber cells places key =
    HoldsName meeting_of cells places 0 key.0 × HoldsNumber cells places 1 key.1

abbrev pub HoldParties : Row → List ℕ → List ℕ × List ℕ × List ℕ → Type 0
HoldParties cells places key =
    HoldsName meeting_of cells places 0 key.0 × HoldsName party_of cells places 1 key.1
    × HoldsName party_of cells places 2 key.2

abbrev pub HoldNumbered : Row → List ℕ → List ℕ × List ℕ × ℕ → Type 0
HoldNumbered cells places key =
    HoldsName meeting_of cells places 0 key.0 × HoldsName party_of cells places 1 key.1
    × HoldsNumber cells places 2 key.2

-- ---- a query

-- in this schema the text asks for the columns of the rows that pass the tests
abbrev pub FindsAs : {A : Type 0} → TableOf A → Table → (List ℕ → List ℕ → List Term) → List ℕ
    → Schema → Type 0
FindsAs it table tests places s =
    AsksAs s (keyed_text table places) (sought it.number (tests it.columns places) (shown_terms it))
    (given_names table)

-- over the tables of a desk the text asks for the rows that hold a key at these places, where a
-- record has its own, and over any tables for nothing of what it writes
pub record FindsBy {A K : Type 0} (it : TableOf A) (declared : Table)
    (tests : List ℕ → List ℕ → List Term) (held : Row → List ℕ → K → Type 0) (places : List ℕ)
    (key_of : A → K) : Type 0 where
  pub asks : (s : Schema) → HasTables layout_two s → FindsAs it declared tests places s
  pub alone : Asks (first (keyed_text declared places))
  pub holds : (cells : Row) (x : A) → it.means cells ≡ Some x → held cells places (key_of x)

-- ---- asking

-- a statement was asked with these parameters
pub record IsAskedWith {S V : Type 0} (g : store.Ghosts S) (a b : Held S) (items : V → List Row)
    (sql : List ℕ) (r : Result V Error) (params : Row) : Type 0 where
  pub ok : HasCleanDisk (state g b)
      → IfOk r (λ v. Shown sql params (state g a) (state g b) (items v))
  pub err : HasCleanDisk (state g b)
      → IfErr r
      (λ e. FailsToQuery sql params (state g a) (state g b) e
      ⊎ IsTooLate sql params (state g a) (state g b) e)
  pub crash : Survives (state g a) (state g b) (λ _. ⊥)

-- it was refused before
pub record IsRefused {S V : Type 0} (a b : Held S) (r : Result V Error) : Type 0 where
  pub error : Error
  pub is : r ≡ Err error
  pub same : b ≡ a

-- a statement was asked with parameters that pass, or refused before
abbrev pub IsAsked : {S V : Type 0} → store.Ghosts S → Held S → Held S → (V → List Row) → List ℕ
    → Result V Error → (Row → Type 0) → Type 0
IsAsked g a b items sql r Passes =
    IsRefused a b r ⊎ ((params : Row) × Passes params × IsAskedWith g a b items sql r params)
