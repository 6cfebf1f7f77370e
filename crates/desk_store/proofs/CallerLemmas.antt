-- The caller whose key it is, found among rows in any order.
use Rattle.std.proofs.Common.{◌≡◌, Bool, true, false, cond, not, List, ℕ, [], ◌∷◌, filter, Option, Some, None, find, slice_get, Ok, inl, inr, refl, sym, ap, subst, ◌∙◌, true≢false}
use Rattle.std.specs.Prelude.{option_map}
use Rattle.std.specs.List.{list_any}
use Rattle.std.specs.Ordering.{is_eq}
use Rattle.std.specs.Cmp.{eq_by_cmp_equiv, first_so, second_so}
use Rattle.std.specs.Cmp.Lexicographic.{nat_list_cmp_total}
use Rattle.std.proofs.lemmas.Bool.{cases_Bool, not-true}
use Rattle.sqlite.specs.Held.{Held, state}
use Rattle.sqlite.specs.Order.{Row}
use Rattle.sqlite_trees.specs.declared.store.Store as store
use Rattle.seq.specs.Ordered.{ascends_by, differ_by}
use Rattle.seq.specs.Sorting.{insert_by, sort_by}
use Rattle.seq.proofs.Ascending.{differ_by_key-IsPermutation}
use Rattle.seq.proofs.Booleans.{neither_first, neither_second}
use Rattle.seq.proofs.SortingLemmas.{IsPermutation-sort_by}
use Rattle.vocabulary.specs.Names.{name_cmp, same_name}
use Rattle.desk_words.specs.SortedLists.{caller_before, is_key_list, keep_keys, same_secret}
use Rattle.desk_words.specs.declared.caller.Caller.{Caller}
use Rattle.desk_words.specs.declared.caller.KeyRow.{KeyRow}
use Rattle.desk_words.proofs.OfficeFacts.{office_facts}
use Rattle.desk_words.proofs.WordRowLemmas.{same_name-true}
use Rattle.sql_rows.specs.Meanings.{all_meanings}
use Rattle.sql_schema.specs.Contents as table
use Rattle.sql_model.specs.OfficeRecords.{flat_in, office_of_records}
use Rattle.sql_schema.specs.Statements.{ChangesNothing, FindsRecords, IsRead}
use Rattle.sql_model.proofs.FlatChanges.{keys_held}
use Rattle.sql_model.proofs.ModelOfficeLemmas.{are_of}
use Rattle.sql_rows.proofs.RowMeaningLemmas.{bound}
use Rattle.desk_deciding.specs.Deciding.{HoldsOfTables}
use Rattle.desk_store.specs.TableReads.{IsCallerWith}

none_passes : {X : Type 0} (test : X → Bool) (xs : List X) → list_any test xs ≡ false → find test xs ≡ None
none_passes test [] h = refl
none_passes test (x ∷ xs) h = rw (neither_first (test x) (list_any test xs) h) (none_passes test xs (neither_second (test x) (list_any test xs) h))

-- what passes and is put among others that do not is found, wherever it is put
found_inserted : {X : Type 0} (test : X → Bool) (before : X → X → Bool) (x : X) (ys : List X) → (test x ≡ true → find test ys ≡ None) → find test (insert_by before x ys) ≡ cond (test x) (Some x) (find test ys)
found_inserted test before x [] alone = refl
found_inserted test before x (y ∷ ys) alone =
    elim (before x y) as (λ b. find test (cond b (x ∷ y ∷ ys) (y ∷ insert_by before x ys)) ≡ cond (test x) (Some x) (find test (y ∷ ys))) [
      | true ↦ refl
      | false ↦ behind (test x) (test y) refl refl (found_inserted test before x ys)
    ]
  where
    behind : (a b : Bool) → test x ≡ a → test y ≡ b → ((test x ≡ true → find test ys ≡ None) → find test (insert_by before x ys) ≡ cond (test x) (Some x) (find test ys))
        → cond (test y) (Some y) (find test (insert_by before x ys)) ≡ cond (test x) (Some x) (cond (test y) (Some y) (find test ys))
    behind true true p q next = absurd (let none : cond (test y) (Some y) (find test ys) ≡ None = alone p in let both : ◌≡◌ {A = Option _} (Some y) None = sym (ap (λ b. cond b (Some y) (find test ys)) q) ∙ none in cc)
    behind true false p q next = let none : find test ys ≡ None = sym (ap (λ b. cond b (Some y) (find test ys)) q) ∙ alone p in rw (q, next (λ _. none), p) refl
    behind false true p q next = rw (p, q) refl
    behind false false p q next = rw (q, next (λ is. absurd (true≢false (sym is ∙ p))), p) refl

module _ (key : List ℕ) where
  abbrev test : KeyRow → Bool
  test row = same_name row.secret key

  -- where a key is that key, another that differs from it is not
  other_key : (x y : KeyRow) → test x ≡ true → same_secret x y ≡ false → test y ≡ false
  other_key x y is apart = elim (cases_Bool (test y)) [
    | inl also ↦
        let here = same_name-true x.secret key is in
        let there = same_name-true y.secret key also in
        let alike : same_secret x y ≡ true = subst (λ k. is_eq (name_cmp x.secret k) ≡ true) (here ∙ sym there) (equal x.secret) in
        absurd (true≢false (sym alike ∙ apart))
    | inr not_so ↦ not_so
  ]
    where
      equal : (k : List ℕ) → is_eq (name_cmp k k) ≡ true
      equal k = (eq_by_cmp_equiv nat_list_cmp_total).refl k

  alone : (x : KeyRow) (rest : List KeyRow) → test x ≡ true → list_any (same_secret x) rest ≡ false → list_any test rest ≡ false
  alone x [] is h = refl
  alone x (y ∷ rest) is h =
      rw (other_key x y is (neither_first (same_secret x y) (list_any (same_secret x) rest) h), alone x rest is (neither_second (same_secret x y) (list_any (same_secret x) rest) h)) refl

  -- where no two keys are the same, the order of the rows is nothing to what is found
  found_sorted : (before : KeyRow → KeyRow → Bool) (rows : List KeyRow) → differ_by same_secret rows ≡ true → find test (sort_by before rows) ≡ find test rows
  found_sorted before [] h = refl
  found_sorted before (x ∷ rows) h =
      let apart = not-true (list_any (same_secret x) rows) (first_so (not (list_any (same_secret x) rows)) (differ_by same_secret rows) h) in
      let later = found_sorted before rows (second_so (not (list_any (same_secret x) rows)) (differ_by same_secret rows) h) in
      found_inserted test before x (sort_by before rows) (λ is. later ∙ none_passes test rows (alone x rows is apart)) ∙ ap (λ o. cond (test x) (Some x) o) later

  first_passing : (rows : List KeyRow) → slice_get (filter test rows) 0 ≡ find test rows
  first_passing [] = refl
  first_passing (x ∷ rows) = elim (test x) as (λ b. slice_get (cond b (x ∷ filter test rows) (filter test rows)) 0 ≡ cond b (Some x) (find test rows)) [ true ↦ refl | false ↦ first_passing rows ]

  keys_differ : (rows : List KeyRow) → is_key_list (sort_by caller_before rows) ≡ true → differ_by same_secret rows ≡ true
  keys_differ rows h =
      let sorted = sort_by caller_before rows in
      let preserved = first_so (keep_keys sorted) (ascends_by caller_before sorted) h in
      sym (differ_by_key-IsPermutation nat_list_cmp_total (λ (row : KeyRow). row.secret) rows sorted (IsPermutation-sort_by caller_before rows)) ∙ second_so _ (differ_by same_secret sorted) preserved

  module _ {S : Type 0} (g : store.Ghosts S) (a b : Held S) where
    -- the first of the rows that are found has the caller
    pub caller_returned : (rows : List Row) (found : List KeyRow) (caller : Option Caller) → (IsRead g a b → FindsRecords g a b table.keys test rows) → ChangesNothing g a b → all_meanings table.keys.means rows ≡ Some found
        → caller ≡ option_map (λ (row : KeyRow). row.caller) (slice_get found 0) → HoldsOfTables {X = Option Caller} g a b (Ok caller) (IsCallerWith key)
    caller_returned rows found caller finds changes mean is = record {
      holds = λ clean office stands.
          let flat = bound (flat_in (state g a).now.trees) office_of_records office stands.holds in
          let own = are_of flat.0 office flat.2 in
          let passing : ◌≡◌ {A = Option (List KeyRow)} (Some found) (Some (filter test flat.0.keys)) = sym mean ∙ (finds (clean, stands.desk)).0 flat.0.keys (keys_held (state g a).now.trees flat.0 flat.1) in
          let same : found ≡ filter test flat.0.keys = cc in
          let listed : is_key_list (sort_by caller_before flat.0.keys) ≡ true = subst (λ l. is_key_list l ≡ true) (sym own.keys) (office_facts office stands.preserved).keys in
          let by_first = ap (λ l. slice_get l 0) same ∙ first_passing flat.0.keys ∙ sym (found_sorted caller_before flat.0.keys (keys_differ flat.0.keys listed)) ∙ ap (find test) own.keys in
          is ∙ ap (option_map (λ (row : KeyRow). row.caller)) by_first;
      same = λ read. (finds read).1;
      changes = changes;
    }
