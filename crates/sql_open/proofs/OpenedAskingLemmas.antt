-- What asking whether the store is open tells.
use Rattle.std.proofs.Common.{◌≡◌, ◌≤◌, [], codes, length, Ok, Err, Result, IfErr, IfOk, IsTrue, inl, inr, refl, sym, ap, subst, arith}
use Rattle.sqlite.specs.declared.error.Error.{Error}
use Rattle.sqlite.specs.Held.{Held, state}
use Rattle.sqlite.specs.Listing.{understood}
use Rattle.sqlite.specs.Order.{Row}
use Rattle.sqlite.specs.Schema.{Schema}
use Rattle.sqlite.specs.State.{State, Fails, HasCleanDisk, IsLive, IsNotRun, IsUnchanged, Survives}
use Rattle.sqlite_resolve.specs.declared.compiled.Compiled.{Compiled}
use Rattle.sqlite_resolve.specs.declared.error.CompileError.{CompileError}
use Rattle.sqlite_tied.specs.Compute.{everything}
use Rattle.sqlite_trees.specs.declared.store.Store as store
use Rattle.sql_desk_tables.proofs.TableColumnLemmas.{stays_prepared}
use Rattle.sql_open.specs.WholeDesk.{AsksOpen}

-- a text that is one statement, with no parameter, which reads no clock
abbrev IsAlone : Result Compiled CompileError → Type 0
IsAlone (Ok c) = (5 ≤ c.tail) × (c.names ≡ []) × (c.formats ≡ [])
IsAlone (Err e) = ⊥

-- a text that begins a transaction is one, over any tables
begins_alone : (declared : Schema) → IsAlone (understood declared (codes "BEGIN"))
unfolding understood everything
begins_alone declared = (omega arith, refl, refl)

-- so it is not run only where the store fails
fails_alone : (old new : State) (e : Error) → IsNotRun old new (codes "BEGIN") [] e → Fails old new ⊥ e
unfolding IsNotRun
fails_alone old new e (inl (inl bad, same)) = absurd (subst IsAlone bad.1 (begins_alone old.now.schema))
fails_alone old new e (inl (inr (c, is, inl many), same)) = absurd (many.0 (subst IsAlone is (begins_alone old.now.schema)).0)
fails_alone old new e (inl (inr (c, is, inr (inl count)), same)) = absurd (count.0 (ap length (sym (subst IsAlone is (begins_alone old.now.schema)).1)))
fails_alone old new e (inl (inr (c, is, inr (inr clock)), same)) = absurd (clock.0 (subst IsAlone is (begins_alone old.now.schema)).2)
fails_alone old new e (inr fails) = fails

module _ {S : Type 0} (g : store.Ghosts S) (old new : Held S) where
  pub refused_so : {e : Error} → ((params : Row) → IsNotRun (state g old) (state g new) (codes "BEGIN") params e) → Fails (state g old) (state g new) ⊥ e
  refused_so {e} not_run = fails_alone (state g old) (state g new) e (not_run [])

  -- it is open
  pub asked : {T E : Type 0} (t : T) → (HasCleanDisk (state g new) → IsUnchanged (state g old) (state g new)) → (HasCleanDisk (state g new) → IsLive (state g new)) → Survives (state g old) (state g new) (λ _. ⊥)
      → AsksOpen {T = T} {E = E} g old new (Ok t)
  asked t same live crash = record {
    crash = crash;
    same = λ clean is_open. ((same clean).0.was_open, (same clean).0.now_is);
    still = λ clean. (same clean, (live clean (same clean).0.is_open).0);
  }

  -- it is not known to be open
  pub refused : {X T E : Type 0} (r : Result X Error) (answer : Result T E) (P : X → Type 0) → (HasCleanDisk (state g new) → IfOk r (λ x. P x × IsUnchanged (state g old) (state g new)))
      → (HasCleanDisk (state g new) → IfErr r (λ e. (params : Row) → IsNotRun (state g old) (state g new) (codes "BEGIN") params e)) → (IsTrue (state g old).is_open → (state g old).now ≡ (state g old).committed)
      → Survives (state g old) (state g new) (λ _. ⊥) → (e : E) → answer ≡ Err e → AsksOpen g old new answer
  refused r answer P ok err settled crash e is = rw is (record {
    crash = crash;
    same = λ clean is_open. stays_prepared (state g old) (state g new) _ r P (ok clean) (err clean) settled is_open;
    still = λ clean. tt;
  })
