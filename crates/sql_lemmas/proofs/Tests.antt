-- The tests of WHERE, and what a row's parts are where it means something.
use Rattle.std.proofs.Common.{◌≡◌, ℕ, ℤ, pos, negsuc, ◌==◌, ◌&&◌, List, Bool, true, false, if◌then◌else◌, Option, Some, None, Ordering, is_eq, inl, inr, refl, sym, ap, subst, ◌∙◌, arith, true≢false, nat_eq}
use Rattle.std.proofs.lemmas.Bool.{and_parts, cases_Bool}
use Rattle.std.proofs.lemmas.Bool.Decides.{nat_tests}
use Rattle.std.proofs.lemmas.Int.{ints}
use Rattle.std.proofs.lemmas.Cmp.{same_from_slice_cmp}
use Rattle.std.specs.Cmp.Lexicographic.{slice_cmp}
use Rattle.std.specs.Ordering.{nat_cmp, int_cmp}
use lib.Pointwise.{pointwise}
use Rattle.std.specs.List.{list_all}
use Rattle.std.specs.Option.{option_map_or}
use Rattle.sqlite.specs.declared.types.Value.{Value}
use Rattle.sqlite.specs.declared.types.Value.TheVariants.{Null, Int, Real, Text, Blob}
use Rattle.sqlite.specs.Collation.TheVariants.{Binary}
use Rattle.sqlite.specs.Kind.TheVariants.{Integer, Text as Texts}
use Rattle.sqlite.specs.Cast.{cast}
use Rattle.sqlite.specs.Order.{value_cmp}
use Rattle.sqlite.specs.Ops.{binary, from_truth, is_true}
use Rattle.sqlite_sql.specs.declared.ops.BinaryOp.TheVariants.{Compare}
use Rattle.sqlite_sql.specs.declared.ops.CompareOp.TheVariants.{Eq}
use Rattle.sqlite_value.proofs.OrderLemmas.{value_cmp-Int, value_cmp-Text}
use Rattle.vocabulary.specs.Names.{same_name, name_if, meeting_of, key_of, letters_of, in_places, is_name, is_name_letter, is_key, is_key_letter}
use Rattle.vocabulary.proofs.VocabularyNameLemmas.{letters_of-in_places, letters_of_name, letters_of_key}
use Rattle.desk_words.proofs.WordRowLemmas.{same_name-true, same_name-refl}
use Rattle.sql_rows.specs.ColumnValues.{parsed_of, parsed_word_of, integer_of, natural_value, natural_of, some_moment_of, is_null}
use Rattle.sql_rows.specs.Marks.{tally_from, declared_of}
use Rattle.desk_words.specs.declared.records.Tally.{Tally}
use Rattle.vocabulary.specs.OptionSteps.{◌>>=◌}
use Rattle.sql_rows.proofs.RowMeaningLemmas.{bound}
pub use Rattle.sql_rows.specs.StayLemmas.{integer_stays, number_stays, text_stays}
use Rattle.sql_lemmas.proofs.Values.{cast_int, cast_null}

-- ---- names

text_test : (s t : List ℕ) (o : Ordering) → o ≡ slice_cmp nat_cmp s t → is_eq o ≡ same_name s t
text_test = same_from_slice_cmp nat_cmp is_eq (pointwise nat_eq) refl (λ _ _. refl) (λ _ _. refl) (λ x y xs ys o h. grind (arith, nat_tests))

-- names of some form are read from their letters alone
module _ (places : ℕ) (form : List ℕ → Bool) (letter : ℕ → Bool) (no_zero : letter 0 ≡ false) (each : (t : List ℕ) → form t ≡ true → list_all letter t ≡ true) where
  letters_are : (t m : List ℕ) → name_if places form t ≡ Some m → (letters_of m ≡ t) × (in_places places t ≡ m)
  letters_are t m h = elim (cases_Bool (form t)) [
    | inl is ↦
        let same : in_places places t ≡ m = go (form t) is h in
        (ap letters_of (sym same) ∙ letters_of-in_places _ letter t no_zero (each t is), same)
    | inr none ↦ absurd (gone (form t) none h)
  ]
    where
      go : (b : Bool) → b ≡ true → ◌≡◌ {A = Option (List ℕ)} (if b then Some (in_places places t) else None) (Some m) → in_places places t ≡ m
      go true e h = cc
      go false e h = absurd cc

      gone : (b : Bool) → b ≡ false → ◌≡◌ {A = Option (List ℕ)} (if b then Some (in_places places t) else None) (Some m) → ⊥
      gone true e h = cc
      gone false e h = cc

  same_letters : (t s m n : List ℕ) → name_if places form t ≡ Some m → name_if places form s ≡ Some n → same_name t s ≡ same_name m n
  same_letters t s m n h k = elim (cases_Bool (same_name t s)) [
    | inl equal ↦
        let same : m ≡ n = sym (letters_are t m h).1 ∙ ap (in_places places) (same_name-true t s equal) ∙ (letters_are s n k).1 in
        equal ∙ sym (subst (λ l. same_name m l ≡ true) same (same_name-refl m))
    | inr other ↦ elim (cases_Bool (same_name m n)) [
      | inl also ↦
          let same : t ≡ s = sym (letters_are t m h).0 ∙ ap letters_of (same_name-true m n also) ∙ (letters_are s n k).0 in
          absurd (true≢false (sym (subst (λ l. same_name t l ≡ true) same (same_name-refl t)) ∙ other))
      | inr neither ↦ other ∙ sym neither
    ]
  ]

truth_is : (b : Bool) → is_true (from_truth (Some b)) ≡ b
truth_is true = refl
truth_is false = refl

-- a row is chosen by a meeting's name exactly where it names that meeting
pub names_decide : (v : Value) (s m n : List ℕ) → parsed_of meeting_of v ≡ Some m → meeting_of s ≡ Some n → is_true (binary (Compare Eq Binary) v (Text s)) ≡ same_name m n
unfolding binary
names_decide (Text t) s m n h k = truth_is (is_eq (value_cmp (Text t) (Text s))) ∙ text_test t s (value_cmp (Text t) (Text s)) (value_cmp-Text t s) ∙ same_letters 16 is_name is_name_letter refl letters_of_name t s m n h k
names_decide Null s m n h k = absurd cc
names_decide (Int z) s m n h k = absurd cc
names_decide (Real x) s m n h k = absurd cc
names_decide (Blob b) s m n h k = absurd cc

-- and so it is whatever the row holds there
pub whatever_decides : (v : Value) (s n : List ℕ) → meeting_of s ≡ Some n → is_true (binary (Compare Eq Binary) v (Text s)) ≡ option_map_or (λ name. same_name name n) (parsed_of meeting_of v) false
unfolding binary value_cmp
whatever_decides (Text t) s n k = go (meeting_of t) refl
  where
    apart : meeting_of t ≡ None → same_name t s ≡ false
    apart none = elim (cases_Bool (same_name t s)) [
      | inl is ↦ let same : None ≡ Some n = sym none ∙ ap meeting_of (same_name-true t s is) ∙ k in absurd cc
      | inr other ↦ other
    ]

    go : (name : Option (List ℕ)) → meeting_of t ≡ name → is_true (binary (Compare Eq Binary) (Text t) (Text s)) ≡ option_map_or (λ name. same_name name n) name false
    go (Some m) is = names_decide (Text t) s m n is k
    go None none = truth_is (is_eq (value_cmp (Text t) (Text s))) ∙ text_test t s (value_cmp (Text t) (Text s)) (value_cmp-Text t s) ∙ apart none
whatever_decides Null s n k = refl
whatever_decides (Int z) s n k = refl
whatever_decides (Real x) s n k = refl
whatever_decides (Blob b) s n k = refl

-- a row is chosen by a key exactly where it has that key, whole
pub keys_decide : (v : Value) (s m n : List ℕ) → parsed_of key_of v ≡ Some m → key_of s ≡ Some n → is_true (binary (Compare Eq Binary) v (Text s)) ≡ same_name m n
unfolding binary
keys_decide (Text t) s m n h k = truth_is (is_eq (value_cmp (Text t) (Text s))) ∙ text_test t s (value_cmp (Text t) (Text s)) (value_cmp-Text t s) ∙ same_letters 64 is_key is_key_letter refl letters_of_key t s m n h k
keys_decide Null s m n h k = absurd cc
keys_decide (Int z) s m n h k = absurd cc
keys_decide (Real x) s m n h k = absurd cc
keys_decide (Blob b) s m n h k = absurd cc

-- ---- numbers

natural_is : (z : ℤ) (n : ℕ) → natural_of z ≡ Some n → z ≡ pos n
natural_is (pos k) n h = ap pos (cc)
natural_is (negsuc k) n h = absurd cc

number_test : (m n : ℕ) → is_eq (int_cmp (pos m) (pos n)) ≡ (m == n)
number_test m n = grind (arith, ints, nat_tests)

-- a row is chosen by a number exactly where it has that number
pub numbers_decide : (v : Value) (z : ℤ) (m n : ℕ) → natural_value v ≡ Some m → natural_of z ≡ Some n → is_true (binary (Compare Eq Binary) v (Int z)) ≡ (m == n)
unfolding binary
numbers_decide (Int k) z m n h e =
    truth_is (is_eq (value_cmp (Int k) (Int z))) ∙ ap is_eq (value_cmp-Int k z) ∙ subst (λ a. is_eq (int_cmp a z) ≡ (m == n)) (sym (natural_is k m h))
    (subst (λ b. is_eq (int_cmp (pos m) b) ≡ (m == n)) (sym (natural_is z n e)) (number_test m n))
numbers_decide Null z m n h e = absurd cc
numbers_decide (Text t) z m n h e = absurd cc
numbers_decide (Real x) z m n h e = absurd cc
numbers_decide (Blob b) z m n h e = absurd cc

-- ---- what is written again reads the same

pub preserved_spelled : {A : Type 0} (reading : List ℕ → Option A) (v : Value) (x : A) → parsed_of reading v ≡ Some x → parsed_of reading (cast Texts v) ≡ Some x
preserved_spelled reading (Text t) x h = h
preserved_spelled reading Null x h = absurd cc
preserved_spelled reading (Int z) x h = absurd cc
preserved_spelled reading (Real y) x h = absurd cc
preserved_spelled reading (Blob b) x h = absurd cc

pub preserved_worded : {A : Type 0} (reading : List ℕ → Option A) (v : Value) (x : A) → parsed_word_of reading v ≡ Some x → parsed_word_of reading (cast Texts v) ≡ Some x
preserved_worded reading (Text t) x h = h
preserved_worded reading Null x h = absurd cc
preserved_worded reading (Int z) x h = absurd cc
preserved_worded reading (Real y) x h = absurd cc
preserved_worded reading (Blob b) x h = absurd cc

pub preserved_integer : {A : Type 0} (reading : ℤ → Option A) (v : Value) (x : A) → (integer_of v >>= reading) ≡ Some x → (integer_of (cast Integer v) >>= reading) ≡ Some x
preserved_integer reading (Int z) x h = subst (λ w. (integer_of w >>= reading) ≡ Some x) (sym (cast_int z)) h
preserved_integer reading Null x h = absurd cc
preserved_integer reading (Text t) x h = absurd cc
preserved_integer reading (Real y) x h = absurd cc
preserved_integer reading (Blob b) x h = absurd cc

pub preserved_some_moment : (v : Value) (x : Option ℕ) → some_moment_of v ≡ Some x → some_moment_of (cast Integer v) ≡ Some x
preserved_some_moment (Int z) x h = subst (λ w. some_moment_of w ≡ Some x) (sym (cast_int z)) h
preserved_some_moment Null x h = subst (λ w. some_moment_of w ≡ Some x) (sym cast_null) h
preserved_some_moment (Text t) x h = absurd cc
preserved_some_moment (Real y) x h = absurd cc
preserved_some_moment (Blob b) x h = absurd cc

-- ---- what is written again stays as it is

pub some_moment_stays : (v : Value) (x : Option ℕ) → some_moment_of v ≡ Some x → cast Integer v ≡ v
some_moment_stays (Int z) x h = cast_int z
some_moment_stays Null x h = cast_null
some_moment_stays (Text t) x h = absurd cc
some_moment_stays (Real y) x h = absurd cc
some_moment_stays (Blob b) x h = absurd cc

null_is : (v : Value) → is_null v ≡ true → v ≡ Null
null_is Null h = refl
null_is (Int z) h = absurd (true≢false (sym h))
null_is (Text t) h = absurd (true≢false (sym h))
null_is (Real y) h = absurd (true≢false (sym h))
null_is (Blob b) h = absurd (true≢false (sym h))

null_stays : (v : Value) → is_null v ≡ true → cast Integer v ≡ v
null_stays v h = subst (λ w. cast Integer w ≡ w) (sym (null_is v h)) cast_null

-- the four columns of what is declared stay as they are
pub declared_stays : (a b c d : Value) (x : Option Tally) → declared_of a b c d ≡ Some x → (cast Integer a ≡ a) × (cast Integer b ≡ b) × (cast Integer c ≡ c) × (cast Integer d ≡ d)
declared_stays a b c d x h = go (is_null a && is_null b && is_null c && is_null d) refl h
  where
    go : (all : Bool) → (is_null a && is_null b && is_null c && is_null d) ≡ all → ◌≡◌ {A = Option (Option Tally)} (if all then Some None else tally_from a b c d >>= λ tally. Some (Some tally)) (Some x)
        → (cast Integer a ≡ a) × (cast Integer b ≡ b) × (cast Integer c ≡ c) × (cast Integer d ≡ d)
    go true e t =
        let three = and_parts (is_null a && is_null b && is_null c) (is_null d) e in
        let two = and_parts (is_null a && is_null b) (is_null c) three.0 in
        let one = and_parts (is_null a) (is_null b) two.0 in
        (null_stays a one.0, null_stays b one.1, null_stays c two.1, null_stays d three.1)
    go false e t =
        let tally = bound (tally_from a b c d) (λ tally. Some (Some tally)) x t in
        let first = bound (natural_value a) _ tally.0 tally.1 in
        let second = bound (natural_value b) _ tally.0 first.2 in
        let third = bound (natural_value c) _ tally.0 second.2 in
        let fourth = bound (natural_value d) _ tally.0 third.2 in
        (number_stays a first.0 first.1, number_stays b second.0 second.1, number_stays c third.0 third.1, number_stays d fourth.0 fourth.1)
