-- A query commits nothing, and a statement that writes in a transaction commits nothing.
use Rattle.std.proofs.Common.{◌≡◌, ◌⊎◌, inl, inr, ℕ, false, List, Option, Some, None, Ok, Err, Result, IfOk, IfErr, IsTrue, refl, sym, ap, subst, ◌∙◌}
use Rattle.std.proofs.lemmas.Bool.{cases_Bool}
use Rattle.sqlite.specs.Order.{Row}
use Rattle.sqlite.specs.Schema.{Schema}
use Rattle.sqlite.specs.Listing.{understood}
use Rattle.sqlite.specs.Held.{Held, state}
use Rattle.sqlite.specs.State.{State, HasCleanDisk, IsUnchanged, IsRolledBack, IsNotRun, KeepsCommit, ExecutesInside, FailsToQuery, FailsToShow, IsTooLate, Shown, ShowsRows, Survives}
use Rattle.sqlite_resolve.specs.declared.compiled.Compiled.{Compiled}
use Rattle.sqlite_schema.specs.declared.command.Returning.{Returning}
use Rattle.sqlite_trees.specs.declared.store.Store as store
use Rattle.sql_schema.specs.Statements.{CommitsNothing}
use Rattle.sqlite.specs.declared.error.Error.{Error}
use Rattle.sqlite.proofs.Callers.{IsPlain}
use Rattle.sql_lemmas.proofs.Reading.{shown_same}

unchanged_keeps : (old new : State) → IsUnchanged old new → KeepsCommit old new
unchanged_keeps old new h = record { was_open = λ _. h.0.was_open; committed = λ _. h.0.committed_is }

back_keeps : (old new : State) → IsRolledBack old new → KeepsCommit old new
back_keeps old new h = record { was_open = h.was_open; committed = λ o. (h.undone o).1 }

not_run_keeps : (old new : State) (sql : List ℕ) (params : Row) (e : Error) → IsNotRun old new sql params e → KeepsCommit old new
unfolding IsNotRun
not_run_keeps old new sql params e (inl h) = unchanged_keeps old new h.1
not_run_keeps old new sql params e (inr h) = back_keeps old new h.3

-- a query that is refused
refused_keeps : (old new : State) (schema : Schema) (sql : List ℕ) (params : Row) (e : Error) → old.now.schema ≡ schema → IsPlain (understood schema sql)
    → FailsToQuery sql params old new e ⊎ IsTooLate sql params old new e → KeepsCommit old new
unfolding FailsToQuery
refused_keeps old new schema sql params e has plain (inl (inl h)) = not_run_keeps old new sql params e h
refused_keeps old new schema sql params e has plain (inl (inr h)) =
    let known = sym h.1.is ∙ ap (λ s. understood s sql) has in
    let bare = subst IsPlain (sym known) plain in
    let it = rw bare.0 at h.2 in
    unchanged_keeps old new it.3
refused_keeps old new schema sql params e has plain (inr h) = unchanged_keeps old new h.5

pub query_keeps : {V : Type 0} (items : V → List Row) (sql : List ℕ) (params : Row) (old new : State) (schema : Schema) → IsPlain (understood schema sql) → (r : Result V Error) → old.now.schema ≡ schema
    → IfOk r (λ v. Shown sql params old new (items v)) → IfErr r (λ e. FailsToQuery sql params old new e ⊎ IsTooLate sql params old new e) → KeepsCommit old new
query_keeps items sql params old new schema plain (Ok v) has h f = unchanged_keeps old new (shown_same sql params old new schema has plain (items v) h)
query_keeps items sql params old new schema plain (Err e) has h f = refused_keeps old new schema sql params e has plain f

-- ---- a query opens no store, whatever its text

rows_opened : (old new : State) (sql : List ℕ) (c : Compiled) (params : Row) (rows : List Row) (what : Option Returning) → ShowsRows old new sql c params rows what → IsTrue old.is_open
rows_opened old new sql c params rows None h = h.3.0.was_open
rows_opened old new sql c params rows (Some what) h = h.1.shown.was_open

shown_opened : (sql : List ℕ) (params : Row) (old new : State) (rows : List Row) → Shown sql params old new rows → IsTrue old.is_open
unfolding Shown
shown_opened sql params old new rows h = rows_opened old new _ h.0 _ rows h.0.returning h.2

unshown_opened : (old new : State) (sql : List ℕ) (c : Compiled) (params : Row) (e : Error) (what : Option Returning) → FailsToShow old new sql c params e what → IsTrue new.is_open → IsTrue old.is_open
unshown_opened old new sql c params e None h is_open = h.3.0.was_open
unshown_opened old new sql c params e (Some what) (inl h) is_open = h.1.0.was_open
unshown_opened old new sql c params e (Some what) (inr h) is_open = h.3.was_open is_open

refused_opened : (old new : State) (sql : List ℕ) (params : Row) (e : Error) → FailsToQuery sql params old new e ⊎ IsTooLate sql params old new e → IsTrue new.is_open → IsTrue old.is_open
unfolding FailsToQuery
refused_opened old new sql params e (inl (inl h)) is_open = (not_run_keeps old new sql params e h).was_open is_open
refused_opened old new sql params e (inl (inr h)) is_open = unshown_opened old new _ h.0 _ e h.0.returning h.2 is_open
refused_opened old new sql params e (inr h) is_open = h.5.0.was_open

pub query_opened : {V : Type 0} (items : V → List Row) (sql : List ℕ) (params : Row) (old new : State) (r : Result V Error) → IfOk r (λ v. Shown sql params old new (items v))
    → IfErr r (λ e. FailsToQuery sql params old new e ⊎ IsTooLate sql params old new e) → IsTrue new.is_open → IsTrue old.is_open
query_opened items sql params old new (Ok v) h f is_open = shown_opened sql params old new (items v) h
query_opened items sql params old new (Err e) h f is_open = refused_opened old new sql params e f is_open

-- ---- what is executed in a transaction commits nothing

executed_keeps : (sql : List ℕ) (params : Row) (old new : State) (r : Result ℕ Error) → ExecutesInside 0 sql params old new r → KeepsCommit old new
executed_keeps sql params old new (Ok count) h = record { was_open = λ _. h.1.was_open; committed = λ _. h.1.committed_is }
executed_keeps sql params old new (Err e) (inl (_, inl h)) = unchanged_keeps old new h
executed_keeps sql params old new (Err e) (inl (_, inr h)) = back_keeps old new h
executed_keeps sql params old new (Err e) (inr h) = unchanged_keeps old new h.2

-- whether the transaction is open, or a failure has ended it
pub writes_nothing : {S P : Type 0} (g : store.Ghosts S) (old new : Held S) (sql : List ℕ) (params : Row) (r : Result ℕ Error) → ((state g old).in_transaction ≡ false → P × (new ≡ old))
    → (HasCleanDisk (state g new) → IsTrue (state g old).in_transaction → ExecutesInside 0 sql params (state g old) (state g new) r) → Survives (state g old) (state g new) (λ _. ⊥) → CommitsNothing g old new
writes_nothing g old new sql params r ended runs crash = record {
  preserved = λ clean. elim (cases_Bool (state g old).in_transaction) [
    | inl inside ↦ executed_keeps sql params (state g old) (state g new) r (runs clean inside)
    | inr out ↦ subst (λ (h : Held _). KeepsCommit (state g old) (state g h)) (sym (ended out).1) (record { was_open = λ o. o; committed = λ o. refl })
  ];
  crash = crash;
}
