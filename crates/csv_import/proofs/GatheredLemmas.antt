-- What is gathered of rows and keys, and one more.
use Rattle.std.proofs.lemmas.List.Sums.{sum_by-append}
use Rattle.std.proofs.Common.{rules, ◌≡◌, ℕ, ◌+◌, ◌<◌, ◌≤◌, Bool, true, false, not, ◌&&◌, ◌||◌, cond, List, [], ◌∷◌, ◌++◌, length, Option, Result, Ok, Err, refl, sym, ap, ◌∙◌, arith, length-append}
use Rattle.std.specs.Prelude.{nat_le, nat_lt, IsTrue}
use Rattle.std.specs.BTreeSet.{BTreeSet, contains, Updates}
use Rattle.std.specs.Cmp.{first_so, second_so}
use Rattle.std.specs.List.{list_all, list_any}
use Rattle.std.specs.Option.{option_cmp}
use Rattle.std.specs.Ordering.{is_eq}
use Rattle.std.specs.declared.cmp.Ordering.{Ordering}
use Rattle.std.proofs.lemmas.Bool.Decides.{nat_tests}
use Rattle.std.proofs.lemmas.Bool.{and_from}
use Rattle.seq.specs.Ordered.{differ_by}
use Rattle.seq.proofs.Differing.{differ_snoc}
use Rattle.vocabulary.specs.Names.{name_cmp}
use Rattle.desk_words.specs.Registers.{all_shares, is_holding, same_member}
use Rattle.desk_words.specs.declared.records.RegisterRow.{RegisterRow}
use Rattle.desk_words.specs.declared.limits.TheConstants.{MOST_SHARES}
use Rattle.csv_import.specs.declared.fault.FileError.{FileError}
use Rattle.csv_import.specs.declared.fault.FileError.TheVariants.{BadRow, Twice}
use Rattle.csv_import.specs.declared.fault.Why.TheVariants as why
use Rattle.vocabulary.specs.ResultSteps.{ensure, ◌>>=◌}
use Rattle.csv_import.specs.GatheredRows.{IsSetOf, HasGatheredRows, may_begin_register, HasGatheredKeys, may_begin_keys}
use Rattle.csv_import.specs.KeyFiles.{key_in, next_key}
use Rattle.desk_words.specs.Callers.{party_in}
use Rattle.desk_words.specs.SortedLists.{same_caller, same_secret}
use Rattle.desk_words.specs.declared.caller.KeyRow.{KeyRow}
use Rattle.csv_import.specs.RegisterFiles.{next_row, parsed_row_after}
use Rattle.csv_import.specs.CsvTables.{one_row_more}

pub is_true : (b : Bool) → IsTrue b → b ≡ true
is_true b h = search rules

any_more : {X : Type 0} (p : X → Bool) (xs : List X) (y : X) → list_any p (xs ++ y ∷ []) ≡ cond (p y) true (list_any p xs)
any_more p [] y = by (p y)
  where
    by : (b : Bool) → (b || false) ≡ cond b true false
    by true = refl
    by false = refl
any_more p (x ∷ xs) y = ap (λ rest. p x || rest) (any_more p xs y) ∙ by (p x) (p y) (list_any p xs)
  where
    by : (a b rest : Bool) → (a || cond b true rest) ≡ cond b true (a || rest)
    by true true rest = refl
    by true false rest = refl
    by false true rest = refl
    by false false rest = refl

all_more : {X : Type 0} (p : X → Bool) (xs : List X) (y : X) → list_all p xs ≡ true → p y ≡ true → list_all p (xs ++ y ∷ []) ≡ true
all_more p [] y h k = and_from _ _ k refl
all_more p (x ∷ xs) y h k = and_from _ _ (first_so (p x) (list_all p xs) h) (all_more p xs y (second_so (p x) (list_all p xs) h) k)

-- a set that took the key of one more value
pub held-more : {K X : Type 0} (cmp : K → K → Ordering) (key : X → K) (xs : List X) (held held' : BTreeSet K) (y : X) → IsSetOf cmp key xs held → Updates cmp held held' (key y) true → IsSetOf cmp key (xs ++ y ∷ []) held'
held-more cmp key xs held held' y holds updates wanted =
    updates.0 wanted ∙ ap (λ b. cond (is_eq (cmp (key y) wanted)) true b) (holds wanted) ∙ sym (any_more (λ value. is_eq (cmp (key value) wanted)) xs y)

-- ---- rows of a register

pub shares-more : (rows : List RegisterRow) (row : RegisterRow) → all_shares (rows ++ row ∷ []) ≡ all_shares rows + row.shares
shares-more rows row = omega (arith, sum_by-append (λ (r : RegisterRow). r.shares) rows (row ∷ []))

pub valid-more : (rows : List RegisterRow) (row : RegisterRow) → may_begin_register rows ≡ true → length rows < 20000 → is_holding row ≡ true → list_any (λ earlier. same_member earlier row) rows ≡ false
    → all_shares rows + row.shares ≤ MOST_SHARES → may_begin_register (rows ++ row ∷ []) ≡ true
valid-more rows row valid few holding other fits =
    let limits : (nat_le (length rows) 20000 && list_all is_holding rows && nat_le (all_shares rows) MOST_SHARES) ≡ true = first_so _ (differ_by same_member rows) valid in
    let differ : differ_by same_member rows ≡ true = second_so (nat_le (length rows) 20000 && list_all is_holding rows && nat_le (all_shares rows) MOST_SHARES) (differ_by same_member rows) valid in
    let holdings : (nat_le (length rows) 20000 && list_all is_holding rows) ≡ true = first_so (nat_le (length rows) 20000 && list_all is_holding rows) (nat_le (all_shares rows) MOST_SHARES) limits in
    let more : length (rows ++ row ∷ []) ≡ length rows + 1 = length-append rows (row ∷ []) in
    let count : length (rows ++ row ∷ []) ≤ 20000 = omega arith in
    let sum : all_shares (rows ++ row ∷ []) ≤ MOST_SHARES = omega (arith, shares-more rows row) in
    and_from _ _
    (and_from _ _
    (and_from _ _ (grind (arith, nat_tests)) (all_more is_holding rows row (second_so (nat_le (length rows) 20000) (list_all is_holding rows) holdings) holding))
    (grind (arith, nat_tests)))
    (differ_snoc same_member rows row differ other)

next_row-is : (line : ℕ) (rows : List RegisterRow) (fields : List (List ℕ)) (row : RegisterRow) → parsed_row_after line (length rows) fields ≡ Ok row
    → next_row line rows fields ≡ (ensure (not (list_any (λ earlier. same_member earlier row) rows)) (Twice line) >>= λ other. ensure (nat_le (all_shares (rows ++ row ∷ [])) MOST_SHARES) (BadRow line why.Total) >>= λ fits. Ok row)
unfolding next_row
next_row-is line rows fields row is = rw is

checks : ℕ → List RegisterRow → RegisterRow → Bool → Bool → Result (List RegisterRow) FileError
checks line rows row twice fits =
    (ensure (not twice) (Twice line) >>= λ other. ensure fits (BadRow line why.Total) >>= λ fits. Ok row) >>= λ r. Ok (rows ++ r ∷ [])

one_more-is : (rows : List RegisterRow) (fields : List (List ℕ)) (row : RegisterRow) (twice fits : Bool) → parsed_row_after (length rows + 2) (length rows) fields ≡ Ok row
    → list_any (λ earlier. same_member earlier row) rows ≡ twice → nat_le (all_shares (rows ++ row ∷ [])) MOST_SHARES ≡ fits → one_row_more next_row rows fields ≡ checks (length rows + 2) rows row twice fits
unfolding checks
one_more-is rows fields row twice fits is any total =
    ap (λ next. next >>= λ r. Ok (rows ++ r ∷ [])) (next_row-is (length rows + 2) rows fields row is) ∙ rw (any, total)

module _ (rows : List RegisterRow) (members : BTreeSet (List ℕ)) (total : ℕ) (fields : List (List ℕ)) (row : RegisterRow) (so_far : HasGatheredRows rows members total)
    (n : ℕ) (count : n ≡ length rows) (spelled : parsed_row_after (n + 2) n fields ≡ Ok row) where
  is : parsed_row_after (length rows + 2) (length rows) fields ≡ Ok row
  is = rw count at spelled

  -- a member who stands before
  pub row-twice : contains name_cmp members row.member ≡ true → one_row_more next_row rows fields ≡ Err (Twice (n + 2))
  unfolding checks
  row-twice held = rw count (one_more-is rows fields row true _ is (sym (so_far.members_are row.member) ∙ held) refl)

  -- too many shares
  pub row-total : contains name_cmp members row.member ≡ false → MOST_SHARES < total + row.shares → one_row_more next_row rows fields ≡ Err (BadRow (n + 2) why.Total)
  unfolding checks
  row-total new many =
      let sum : MOST_SHARES < all_shares (rows ++ row ∷ []) = omega (arith, shares-more rows row, so_far.total_is) in
      let over : nat_le (all_shares (rows ++ row ∷ [])) MOST_SHARES ≡ false = grind (arith, nat_tests) in
      rw count (one_more-is rows fields row false false is (sym (so_far.members_are row.member) ∙ new) over)

  -- one row more
  pub row-more : contains name_cmp members row.member ≡ false → total + row.shares ≤ MOST_SHARES → one_row_more next_row rows fields ≡ Ok (rows ++ row ∷ [])
  unfolding checks
  row-more new fit =
      let sum : all_shares (rows ++ row ∷ []) ≤ MOST_SHARES = omega (arith, shares-more rows row, so_far.total_is) in
      one_more-is rows fields row false true is (sym (so_far.members_are row.member) ∙ new) (grind (arith, nat_tests))

  pub rows-more : (members' : BTreeSet (List ℕ)) → length rows < 20000 → is_holding row ≡ true → contains name_cmp members row.member ≡ false → Updates name_cmp members members' row.member true → total + row.shares ≤ MOST_SHARES
      → HasGatheredRows (rows ++ row ∷ []) members' (total + row.shares)
  rows-more members' few holding new updates fit = record {
    members_are = held-more name_cmp (λ (r : RegisterRow). r.member) rows members members' row so_far.members_are updates;
    total_is = omega (arith, shares-more rows row, so_far.total_is);
    valid = valid-more rows row so_far.valid few holding (sym (so_far.members_are row.member) ∙ new) (omega (arith, so_far.total_is));
  }

-- ---- keys

pub keys-valid-more : (rows : List KeyRow) (row : KeyRow) → may_begin_keys rows ≡ true → length rows < 40000 → list_any (λ earlier. same_caller earlier row) rows ≡ false
    → list_any (λ earlier. same_secret earlier row) rows ≡ false → may_begin_keys (rows ++ row ∷ []) ≡ true
keys-valid-more rows row valid few caller secret =
    let limits : (nat_le (length rows) 40000 && differ_by same_secret rows) ≡ true = first_so _ (differ_by same_caller rows) valid in
    let callers : differ_by same_caller rows ≡ true = second_so (nat_le (length rows) 40000 && differ_by same_secret rows) (differ_by same_caller rows) valid in
    let secrets : differ_by same_secret rows ≡ true = second_so (nat_le (length rows) 40000) (differ_by same_secret rows) limits in
    let more : length (rows ++ row ∷ []) ≡ length rows + 1 = length-append rows (row ∷ []) in
    let count : length (rows ++ row ∷ []) ≤ 40000 = omega arith in
    and_from _ _ (and_from _ _ (grind (arith, nat_tests)) (differ_snoc same_secret rows row secrets secret)) (differ_snoc same_caller rows row callers caller)

next_key-is : (line : ℕ) (rows : List KeyRow) (fields : List (List ℕ)) (row : KeyRow) → length rows < 40000 → key_in line fields ≡ Ok row
    → next_key line rows fields ≡ (ensure (not (list_any (λ earlier. same_caller earlier row) rows)) (Twice line) >>= λ caller. ensure (not (list_any (λ earlier. same_secret earlier row) rows)) (Twice line) >>= λ secret. Ok row)
unfolding next_key
next_key-is line rows fields row few is =
    let room : nat_lt (length rows) 40000 ≡ true = grind (arith, nat_tests) in
    rw (room, is)

key_checks : ℕ → List KeyRow → KeyRow → Bool → Bool → Result (List KeyRow) FileError
key_checks line rows row caller secret =
    (ensure (not caller) (Twice line) >>= λ other. ensure (not secret) (Twice line) >>= λ new. Ok row) >>= λ r. Ok (rows ++ r ∷ [])

one_key_more-is : (rows : List KeyRow) (fields : List (List ℕ)) (row : KeyRow) (caller secret : Bool) → length rows < 40000 → key_in (length rows + 2) fields ≡ Ok row
    → list_any (λ earlier. same_caller earlier row) rows ≡ caller → list_any (λ earlier. same_secret earlier row) rows ≡ secret → one_row_more next_key rows fields ≡ key_checks (length rows + 2) rows row caller secret
unfolding key_checks
one_key_more-is rows fields row caller secret few is callers secrets =
    ap (λ next. next >>= λ r. Ok (rows ++ r ∷ [])) (next_key-is (length rows + 2) rows fields row few is) ∙ rw (callers, secrets)

module _ (rows : List KeyRow) (callers : BTreeSet (Option (List ℕ))) (secrets : BTreeSet (List ℕ)) (fields : List (List ℕ)) (row : KeyRow) (so_far : HasGatheredKeys rows callers secrets) (few : length rows < 40000)
    (n : ℕ) (count : n ≡ length rows) (spelled : key_in (n + 2) fields ≡ Ok row) where
  key-is : key_in (length rows + 2) fields ≡ Ok row
  key-is = rw count at spelled

  -- a caller who stands before
  pub caller-twice : contains (option_cmp name_cmp) callers (party_in row.caller) ≡ true → one_row_more next_key rows fields ≡ Err (Twice (n + 2))
  unfolding key_checks
  caller-twice held = rw count (one_key_more-is rows fields row true _ few key-is (sym (so_far.callers_are (party_in row.caller)) ∙ held) refl)

  -- a key that stands before
  pub secret-twice : contains (option_cmp name_cmp) callers (party_in row.caller) ≡ false → contains name_cmp secrets row.secret ≡ true → one_row_more next_key rows fields ≡ Err (Twice (n + 2))
  unfolding key_checks
  secret-twice new held =
      rw count (one_key_more-is rows fields row false true few key-is (sym (so_far.callers_are (party_in row.caller)) ∙ new) (sym (so_far.secrets_are row.secret) ∙ held))

  -- one key more
  pub key-more : contains (option_cmp name_cmp) callers (party_in row.caller) ≡ false → contains name_cmp secrets row.secret ≡ false → one_row_more next_key rows fields ≡ Ok (rows ++ row ∷ [])
  unfolding key_checks
  key-more new other =
      one_key_more-is rows fields row false false few key-is (sym (so_far.callers_are (party_in row.caller)) ∙ new) (sym (so_far.secrets_are row.secret) ∙ other)

  pub keys-more : (callers' : BTreeSet (Option (List ℕ))) (secrets' : BTreeSet (List ℕ)) → contains (option_cmp name_cmp) callers (party_in row.caller) ≡ false → contains name_cmp secrets row.secret ≡ false
      → Updates (option_cmp name_cmp) callers callers' (party_in row.caller) true → Updates name_cmp secrets secrets' row.secret true → HasGatheredKeys (rows ++ row ∷ []) callers' secrets'
  keys-more callers' secrets' new other updates updates' = record {
    callers_are = held-more (option_cmp name_cmp) (λ (r : KeyRow). party_in r.caller) rows callers callers' row so_far.callers_are updates;
    secrets_are = held-more name_cmp (λ (r : KeyRow). r.secret) rows secrets secrets' row so_far.secrets_are updates';
    valid = keys-valid-more rows row so_far.valid few (sym (so_far.callers_are (party_in row.caller)) ∙ new) (sym (so_far.secrets_are row.secret) ∙ other);
  }

-- whether a key is new, as its insertion tells
pub new-if : (b : Bool) → true ≡ not b → b ≡ false
new-if true h = absurd (cc)
new-if false h = refl

pub held-if : (b : Bool) → false ≡ not b → b ≡ true
held-if true h = refl
held-if false h = absurd (cc)
