-- The tables of a version by their numbers, and what a write to one of them leaves of the others.
use Rattle.std.proofs.Common.{◌≡◌, ◌≢◌, inl, inr, ℕ, suc, ◌==◌, List, [], ◌∷◌, ◌++◌, Bool, true, not, ◌&&◌, ◌||◌, false, drop, length, slice_get, Some, refl, sym, ap, subst, ◌∙◌, IsTrue, true≢false}
use Rattle.std.specs.List.{AllByRecursion, list_all, list_any}
use Rattle.std.proofs.lemmas.Bool.{and_parts, cases_Bool}
use Rattle.std.proofs.lemmas.Bool.Decides.{eqb_tells}
use Rattle.std.proofs.lemmas.List.Folds.{list_any-append}
use Rattle.sqlite.specs.Table.{Table}
use Rattle.sqlite.specs.Schema.{Schema}
use Rattle.sqlite_schema.specs.declared.schema.Action.{Action}
use Rattle.sqlite_schema.specs.declared.schema.Action.TheVariants.{NoAction}
use Rattle.sqlite_schema.specs.declared.schema.Reference.{Reference}
use Rattle.sqlite_schema.specs.declared.schema.Index.{Index}
use Rattle.sqlite_schema.specs.declared.schema.View.{View as Stored}
use Rattle.sqlite.specs.Command.{Command}
use Rattle.sqlite.specs.Listing.{understood}
use Rattle.sqlite.specs.Rows.{sequence}
use Rattle.sqlite.specs.State.{State}
use Rattle.sqlite.proofs.Callers.{IsPlain, command_of}
use Rattle.sql_schema.specs.Tables.{sequence as counts_of_numbers}
use Rattle.sql_schema.specs.Statements.{Layout, layout_one, layout_two, has_table, AreEmpty, ExtendsSchema, HasTables, is_other, IsDeskOf, IsRising, KeepsOthersIn}
use Rattle.sqlite_trees.proofs.ListLemmas.{all-slice_get}

-- a schema whose tables are these of the version and others beside, with any indexes and views
abbrev pub beside : Layout → List Table → List Index → List Stored → Schema
beside layout others indexes views = record { tables = layout.schema.tables ++ others; indexes = indexes; views = views }

-- what holds of each such schema holds of a schema that has the tables
pub wide : {layout : Layout} (P : Schema → Type 0) → ((others : List Table) → list_all (is_other layout) others ≡ true → (indexes : List Index) (views : List Stored) → P (beside layout others indexes views)) → (s : Schema) → HasTables layout s → P s
wide P h s has = subst (λ ts. P (record { tables = ts; indexes = s.indexes; views = s.views })) (sym has.tables) (h has.others has.apart s.indexes s.views)

-- in this schema the text is understood as this command, whose table stands at this place
pub record RunsOn (schema : Schema) (text : List ℕ) (command : Command) (at : ℕ) (table : Table) : Type 0 where
  pub is : command_of (understood schema text) ≡ command
  pub plain : IsPlain (understood schema text)
  pub there : slice_get schema.tables at ≡ Some table

-- ---- which references act

abbrev pub is_none : Action → Bool
is_none NoAction = true
is_none _ = false

abbrev pub is_still : Reference → Bool
is_still ref = is_none ref.on_delete && is_none ref.on_update

-- only a table that is none of the desk's may have references that act
abbrev pub act_on_others : Layout → List Table → Bool
act_on_others layout tables = list_all (λ (t : Table). list_all is_still t.references || is_other layout t) tables

-- no reference of a table of the desk acts, one table counts the numbers given so far, and each number of a table of the
-- desk is that of another one that is declared
pub record AreApart (layout : Layout) (schema : Schema) : Type 0 where
  pub acts : act_on_others layout schema.tables ≡ true
  pub counts : Table
  pub counted : sequence schema ≡ Some counts
  pub declared : IsTrue (list_all (λ number. list_any (λ (t : Table). t.tree == number) schema.tables && not (number == counts.tree)) layout.numbers)

apart_act : (layout : Layout) (others : List Table) → list_all (is_other layout) others ≡ true → act_on_others layout others ≡ true
apart_act layout [] h = refl
apart_act layout (t ∷ others) h = let both = and_parts (is_other layout t) (list_all (is_other layout) others) h in rw (both.0, or_true (list_all is_still t.references), apart_act layout others both.1) refl
  where
    or_true : (b : Bool) → (b || true) ≡ true
    or_true true = refl
    or_true false = refl

pub ones_apart : (schema : Schema) → HasTables layout_one schema → AreApart layout_one schema
unfolding Rattle.sqlite_schema.specs.Names.same_name
ones_apart = wide (AreApart layout_one) (λ others apart indexes views. record { acts = apart_act layout_one others apart; counts = record counts_of_numbers { tree = 7 }; counted = refl; declared = refl })

-- the tables of the version have themselves
pub ones_declared : HasTables layout_one layout_one.schema
ones_declared = record { others = []; tables = refl; apart = refl }

-- ---- version 2

pub twos_apart : (schema : Schema) → HasTables layout_two schema → AreApart layout_two schema
unfolding Rattle.sqlite_schema.specs.Names.same_name
twos_apart = wide (AreApart layout_two) (λ others apart indexes views. record { acts = apart_act layout_two others apart; counts = record counts_of_numbers { tree = 7 }; counted = refl; declared = refl })

pub twos_declared : HasTables layout_two layout_two.schema
twos_declared = record { others = []; tables = refl; apart = refl }

-- the tables that version 2 adds
abbrev pub added_tables : List Table
added_tables = drop (length layout_one.schema.tables) layout_two.schema.tables

-- a table that is none of version 2 is none of version 1
no_earlier : (t : Table) → is_other layout_two t ≡ true → is_other layout_one t ≡ true
no_earlier t h = go (list_any (λ n. n == t.tree) layout_one.numbers) _ (ap not (sym (list_any-append (λ n. n == t.tree) layout_one.numbers (29 ∷ 31 ∷ 33 ∷ 35 ∷ []))) ∙ h)
  where
    go : (a b : Bool) → not (a || b) ≡ true → not a ≡ true
    go true b e = e
    go false b e = refl

none_earlier : (others : List Table) → list_all (is_other layout_two) others ≡ true → list_all (is_other layout_one) others ≡ true
none_earlier [] h = refl
none_earlier (t ∷ others) h = let both = and_parts (is_other layout_two t) (list_all (is_other layout_two) others) h in rw (no_earlier t both.0, none_earlier others both.1) refl

-- what has the tables of version 2 has those of version 1
pub as_one : (s : Schema) → HasTables layout_two s → HasTables layout_one s
as_one s has = record { others = added_tables ++ has.others; tables = has.tables; apart = none_earlier has.others has.apart }

-- so what holds of each schema that has the tables of version 1 holds of one that has those of version 2
pub wide_one : (P : Schema → Type 0) → ((others : List Table) → list_all (is_other layout_one) others ≡ true → (indexes : List Index) (views : List Stored) → P (beside layout_one others indexes views)) → (s : Schema) → HasTables layout_two s → P s
wide_one P h s has = wide P h s (as_one s has)

-- a table with this number, and its place in the list
pub record IsListed (tables : List Table) (number : ℕ) : Type 0 where
  pub place : ℕ
  pub table : Table
  pub there : slice_get tables place ≡ Some table
  pub numbered : table.tree ≡ number

pub listed_in : (tables : List Table) (number : ℕ) → list_any (λ (t : Table). t.tree == number) tables ≡ true → IsListed tables number
listed_in [] number h = absurd (true≢false (sym h))
listed_in (t ∷ tables) number h = elim (eqb_tells t.tree number) [
  | inl same ↦ record { place = 0; table = t; there = refl; numbered = same.1 }
  | inr other ↦ let later = listed_in tables number (rw other.0 at h) in record { place = suc later.place; table = later.table; there = later.there; numbered = later.numbered }
]

-- what holds of the tree of each table that is declared holds of a number that is one's
pub of_tree : (P : ℕ → Type 0) (tables : List Table) (number : ℕ) → AllByRecursion (λ (t : Table). P t.tree) tables → IsTrue (list_any (λ (t : Table). t.tree == number) tables) → P number
of_tree P tables number all is = let it = listed_in tables number is in subst P it.numbered (all-slice_get (λ (t : Table). P t.tree) tables it.place it.table it.there all)

-- a number of a list that passes a test passes it
passes_so : (test : ℕ → Bool) (numbers : List ℕ) (number : ℕ) → list_all test numbers ≡ true → list_any (λ n. n == number) numbers ≡ true → test number ≡ true
passes_so test [] number all h = absurd (true≢false (sym h))
passes_so test (n ∷ numbers) number all h =
    let tests = and_parts (test n) (list_all test numbers) all in
    elim (eqb_tells n number) [ inl same ↦ subst (λ k. test k ≡ true) same.1 tests.0 | inr other ↦ passes_so test numbers number tests.1 (rw other.0 at h) ]

module _ {layout : Layout} {schema : Schema} (apart : AreApart layout schema) where
  declared_apart : (number : ℕ) → IsTrue (has_table layout number) → IsTrue (list_any (λ (t : Table). t.tree == number) schema.tables) × IsTrue (not (number == apart.counts.tree))
  declared_apart number is = and_parts _ _ (passes_so _ layout.numbers number apart.declared is)

  pub declared_so : (number : ℕ) → IsTrue (has_table layout number) → IsTrue (list_any (λ (t : Table). t.tree == number) schema.tables)
  declared_so number is = (declared_apart number is).0

  pub no_count : (number : ℕ) → IsTrue (has_table layout number) → number ≢ apart.counts.tree
  no_count number is = elim (eqb_tells number apart.counts.tree) [ inl same ↦ absurd (true≢false (sym (rw same.0 at (declared_apart number is).1))) | inr other ↦ other.1 ]

  -- what holds of the tree of each table that is declared holds of the numbers of the desk's
  pub of_tables : (P : ℕ → Type 0) → AllByRecursion (λ (t : Table). P t.tree) schema.tables → (number : ℕ) → IsTrue (has_table layout number) → P number
  of_tables P all number is = of_tree P schema.tables number all (declared_apart number is).0

  -- tables with no row are those of a desk
  pub empty_is_desk : (s : State) → AreEmpty schema s → HasTables layout schema → IsDeskOf layout s
  empty_is_desk s h has = record { schema = subst (HasTables layout) (sym h.0) has; rising = λ number is. subst IsRising (sym (of_tables (λ n. s.now.trees n ≡ []) h.1 number is)) (tt, tt) }

-- the tables are still those of the desk after a write to one of them, where its rows rise
pub still_desk : {layout : Layout} (changed : ℕ) (old new : State) → IsDeskOf layout old → new.now.schema ≡ old.now.schema → KeepsOthersIn layout changed old new → IsRising (new.now.trees changed) → IsDeskOf layout new
still_desk {layout = layout} changed old new was schema preserved mine = record {
  schema = subst (HasTables layout) (sym schema) was.schema;
  rising = λ number is. elim (eqb_tells number changed) [
    | inl same ↦ subst (λ n. IsRising (new.now.trees n)) (sym same.1) mine
    | inr other ↦ subst IsRising (sym (preserved number is other.1)) (was.rising number is)
  ];
}

-- tables of version 1 of which those of version 2 are made are those of a desk of version 2
pub extended_desk : (old new : State) → ExtendsSchema layout_one.schema layout_two.schema old new → IsDeskOf layout_one old → IsDeskOf layout_two new
extended_desk old new made was = record {
  schema = subst (HasTables layout_two) (sym made.schema) twos_declared;
  rising = λ number is. elim (cases_Bool (has_table layout_one number)) [
    | inl early ↦ subst IsRising (sym (of_tree (λ n. new.now.trees n ≡ old.now.trees n) layout_one.schema.tables number made.preserved (declared_so (ones_apart layout_one.schema ones_declared) number early))) (was.rising number early)
    | inr later ↦
        let more : list_any (λ n. n == number) (29 ∷ 31 ∷ 33 ∷ 35 ∷ []) ≡ true = rw later at (sym (list_any-append (λ n. n == number) layout_one.numbers (29 ∷ 31 ∷ 33 ∷ 35 ∷ [])) ∙ is) in
        subst IsRising (sym (of_tree (λ n. new.now.trees n ≡ []) added_tables number made.empty more)) (tt, tt)
  ];
}
