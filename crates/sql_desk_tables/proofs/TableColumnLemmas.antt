-- Statements that are asked about, and not run.
use Rattle.std.proofs.Common.{◌≡◌, ℕ, true, List, [], ◌∷◌, ◌++◌, drop, length, map, Ok, Err, IsOk, Result, is_ok, IfErr, IfOk, IsTrue, refl, sym, ap, subst, ◌∙◌, inl, inr, arith}
use Rattle.std.specs.List.{AllByRecursion, list_all}
use Rattle.std.proofs.lemmas.Bool.{and_parts}
use Rattle.std.proofs.lemmas.Result.{on_ok_weaker}
use Rattle.sqlite.specs.declared.error.Error.{Error}
use Rattle.sqlite.specs.declared.error.Error.TheVariants.{SqlInputError}
use Rattle.sqlite.specs.Effect.{Database}
use Rattle.sqlite.specs.Held.{Held, state}
use Rattle.sqlite.specs.Listing.{understood}
use Rattle.sqlite.specs.Outline.{Outline}
use Rattle.sqlite.specs.Steps.{Outlines}
use Rattle.sqlite.specs.State.{State, HasCleanDisk, IsNotRun, IsUnchanged, store_error}
use Rattle.sqlite.specs.Order.{Row}
use Rattle.sqlite_resolve.specs.declared.compiled.Compiled.{Compiled}
use Rattle.sqlite_resolve.specs.declared.error.CompileError.{CompileError}
use Rattle.sqlite.proofs.StateLemmas.{survives_then}
use Rattle.sqlite_tied.specs.Compute.{everything}
use Rattle.sqlite_trees.specs.declared.error.StoreError.{StoreError}
use Rattle.sqlite_trees.specs.declared.error.StoreError.TheVariants as kind
use Rattle.sqlite_trees.specs.declared.store.Store as store
use Rattle.sql_schema.specs.Statements.{HasTables, layout_one, layout_two}
use Rattle.sql_lemmas.proofs.Frames.{as_one, beside, wide}
use Rattle.sql_schema.specs.Tables.{asked_one, asked_two}
use Rattle.sql_schema.specs.SqlTexts.{asking_text}
use Rattle.sqlite.specs.Table.{Table}
use Rattle.sqlite_schema.specs.declared.schema.Index.{Index}
use Rattle.sqlite_schema.specs.declared.schema.View.{View as Stored}
use Rattle.sqlite.specs.Schema.{Schema}
use Rattle.sql_desk_tables.specs.ColumnChecks.{AreUnderstood, AsksFor, HasColumns, HasColumnsOf}
use Rattle.sql_desk_tables.specs.declared.columns.ColumnError.{ColumnError}
use Rattle.sql_desk_tables.specs.declared.columns.ColumnError.TheVariants.{Missing, Refused}

-- a statement that is not run leaves the tables of the last commit
pub stays_unrun : (old new : State) (sql : List ℕ) (e : Error) → IsNotRun old new sql [] e → (IsTrue old.is_open → old.now ≡ old.committed) → IsTrue new.is_open
    → IsTrue old.is_open × (new.now ≡ old.now)
unfolding IsNotRun
stays_unrun old new sql e (inl h) settled is_open = (h.1.0.was_open, h.1.0.now_is)
stays_unrun old new sql e (inr h) settled is_open = let was = h.3.was_open is_open in (was, (h.3.undone is_open).0 ∙ sym (settled was))

no_store_error : (cause : StoreError) (f : CompileError) → SqlInputError f ≡ store_error cause → ⊥
no_store_error kind.OutOfMemory f h = cc
no_store_error kind.Io f h = cc
no_store_error kind.Corrupt f h = cc
no_store_error kind.Full f h = cc
no_store_error kind.Broken f h = cc
no_store_error kind.Unstorable f h = cc

no_error : (r : Result Compiled CompileError) (f : CompileError) → r ≡ Err f → ¬ IsOk r
no_error (Ok c) f bad ok = cc
no_error (Err e) f bad ok = cc

-- a text that is refused as one is no statement over these tables
pub unread : (old new : State) (sql : List ℕ) (f : CompileError) → IsNotRun old new sql [] (SqlInputError f) → IsTrue old.is_open × ¬ AreUnderstood old.now.schema (sql ∷ [])
unfolding IsNotRun
unread old new sql f (inl (inl bad, same)) = (same.0.was_open, λ are. no_error (understood old.now.schema sql) _ bad.1 are.0)
unread old new sql f (inl (inr (c, is, inl many), same)) = absurd (let h : SqlInputError f ≡ _ = many.1 in cc)
unread old new sql f (inl (inr (c, is, inr (inl count)), same)) = absurd (let h : SqlInputError f ≡ _ = count.1 in cc)
unread old new sql f (inl (inr (c, is, inr (inr clock)), same)) = absurd (let h : SqlInputError f ≡ _ = clock.1 in cc)
unread old new sql f (inr fails) = absurd (no_store_error fails.0 f fails.1)

module _ {X : Type 0} (old new : State) (sql : List ℕ) (r : Result X Error) where
  -- a statement that is compiled, and not run, changes nothing
  pub stays_prepared : (P : X → Type 0) → IfOk r (λ x. P x × IsUnchanged old new) → IfErr r (λ e. (params : Row) → IsNotRun old new sql params e) → (IsTrue old.is_open → old.now ≡ old.committed)
      → IsTrue new.is_open → IsTrue old.is_open × (new.now ≡ old.now)
  stays_prepared P ok err settled is_open = go r ok err
    where
      go : (q : Result X Error) → IfOk q (λ x. P x × IsUnchanged old new) → IfErr q (λ e. (params : Row) → IsNotRun old new sql params e) → IsTrue old.is_open × (new.now ≡ old.now)
      go (Ok x) ok err = (ok.1.0.was_open, ok.1.0.now_is)
      go (Err e) ok err = stays_unrun old new sql e (err []) settled is_open

  pub unread_if : (f : CompileError) → r ≡ Err (SqlInputError f) → IfErr r (λ e. (params : Row) → IsNotRun old new sql params e) → IsTrue old.is_open × ¬ AreUnderstood old.now.schema (sql ∷ [])
  unread_if f is err = unread old new sql f (subst (λ (q : Result X Error). IfErr q (λ e. (params : Row) → IsNotRun old new sql params e)) is err [])

pub not_missing : (e : Error) → ◌≡◌ {A = Result (Unit {0}) ColumnError} (Err (Refused e)) (Err Missing) → ⊥
not_missing e h = cc

-- a text that is compiled was a statement over the tables of the last commit
pub stood : (old new : State) (sql : List ℕ) (r : Result Outline Error) → is_ok r ≡ true → IfOk r (λ s. (s.text ≡ sql) × IsUnchanged old new) → IfOk r (Outlines (understood old.now.schema sql))
    → IsTrue old.is_open × IsTrue new.is_open × AreUnderstood old.now.schema (sql ∷ [])
stood old new sql (Ok s) is same shape = (same.1.0.was_open, same.1.0.is_open, (go (understood old.now.schema sql) shape, tt))
  where
    go : (c : Result Compiled CompileError) → Outlines c s → is_ok c ≡ true
    go (Ok c) h = refl
    go (Err e) h = absurd h
stood old new sql (Err e) is same shape = absurd cc

both : {X : Type 0} (P : X → Type 0) (xs ys : List X) → AllByRecursion P xs → AllByRecursion P ys → AllByRecursion P (xs ++ ys)
both P [] ys h k = k
both P (x ∷ xs) ys h k = (h.0, both P xs ys h.1 k)

front : {X : Type 0} (P : X → Type 0) (xs ys : List X) → AllByRecursion P (xs ++ ys) → AllByRecursion P xs
front P [] ys h = tt
front P (x ∷ xs) ys h = (h.0, front P xs ys h.1)

rest : {X : Type 0} (P : X → Type 0) (xs ys : List X) → AllByRecursion P (xs ++ ys) → AllByRecursion P ys
rest P [] ys h = h
rest P (x ∷ xs) ys h = rest P xs ys h.1

-- what is asked next is asked of the same tables
pub asks_then : {S T U : Type 0} {t : T} (g : store.Ghosts S) (a b c : Held S) (texts more : List (List ℕ)) (r : Result U ColumnError) → AsksFor {T = T} g a b texts (Ok t) → AsksFor g b c more r → AsksFor g a c (texts ++ more) r
asks_then g a b c texts more r one two = record {
  crash = survives_then (state g a) (state g b) (state g c) (λ _. ⊥) (λ _. ⊥) (λ _. ⊥) (λ _ _ none. none) (λ _ _ none. none) one.crash two.crash;
  same = λ clean is_open.
      let early : HasCleanDisk (state g b) = omega (arith, two.crash.clean, clean) in
      let second = two.same clean is_open in
      let first = one.same early second.0 in
      (first.0, second.1 ∙ first.1);
  stand = λ clean.
      let early : HasCleanDisk (state g b) = omega (arith, two.crash.clean, clean) in
      let mine = one.stand early in
      on_ok_weaker r (λ h. (mine.0, h.1, both _ texts more mine.2 (subst (λ (d : Database). AreUnderstood d.schema more) (one.same early h.0).1 h.2))) (two.stand clean);
  missed = λ clean no.
      let early : HasCleanDisk (state g b) = omega (arith, two.crash.clean, clean) in
      let bad = two.missed clean no in
      let first = one.same early bad.0 in
      (first.0, λ are. bad.1 (subst (λ (d : Database). AreUnderstood d.schema more) (sym first.1) (rest _ texts more are)));
}

-- what is missing ends the asking
pub asks_stop : {S T U : Type 0} {e : ColumnError} (g : store.Ghosts S) (a b : Held S) (texts more : List (List ℕ)) (r : Result U ColumnError) → r ≡ Err e → AsksFor {T = T} g a b texts (Err e) → AsksFor g a b (texts ++ more) r
asks_stop {e = e} g a b texts more r is one = subst (λ q. AsksFor g a b (texts ++ more) q) (sym is) (record {
  crash = one.crash;
  same = one.same;
  stand = λ _. tt;
  missed = λ clean is.
      let same : e ≡ Missing = cc in
      let bad = one.missed clean (ap (λ (f : ColumnError). Err f) same) in
      (bad.0, λ are. bad.1 (front _ texts more are));
})

-- texts that are computed to be statements are statements
all_understood : (s : Schema) (texts : List (List ℕ)) → list_all (λ text. is_ok (understood s text)) texts ≡ true → AreUnderstood s texts
all_understood s [] h = tt
all_understood s (text ∷ texts) h = let p = and_parts (is_ok (understood s text)) (list_all (λ text. is_ok (understood s text)) texts) h in (p.0, all_understood s texts p.1)

-- the texts that name the columns of the tables that version 2 adds
added_texts : List (List ℕ)
added_texts = map asking_text (drop (length asked_one) asked_two)

-- each text is a statement over the tables of a desk, whatever stands beside them
module _ (others : List Table) (indexes : List Index) (views : List Stored) where
  ones_understood : list_all (λ text. is_ok (understood (beside layout_one others indexes views) text)) (map asking_text asked_one) ≡ true
  unfolding understood everything
  ones_understood = refl

  added_understood : list_all (λ text. is_ok (understood (beside layout_two others indexes views) text)) added_texts ≡ true
  unfolding added_texts understood everything
  added_understood = refl

pub columns_one_stand : (s : Schema) → HasTables layout_one s → HasColumnsOf asked_one s
unfolding HasColumnsOf
columns_one_stand = wide (HasColumnsOf asked_one) (λ others apart indexes views. all_understood (beside layout_one others indexes views) (map asking_text asked_one) (ones_understood others indexes views))

sessions_stand : (s : Schema) → HasTables layout_two s → AreUnderstood s added_texts
sessions_stand = wide (λ s. AreUnderstood s added_texts) (λ others apart indexes views. all_understood (beside layout_two others indexes views) added_texts (added_understood others indexes views))

pub columns_stand : (s : Schema) → HasTables layout_two s → HasColumns s
unfolding HasColumnsOf added_texts
columns_stand s has = both (λ text. IsOk (understood s text)) (map asking_text asked_one) added_texts (columns_one_stand s (as_one s has)) (sessions_stand s has)
