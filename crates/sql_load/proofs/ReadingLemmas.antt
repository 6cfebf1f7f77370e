-- One reading of the tables after another.
use Rattle.std.proofs.Common.{◌≡◌, ◌&&◌, true, false, refl, Bool, Option, Ok, Err, Result, OnOk, sym, subst, ◌∙◌, arith, true≢false}
use Rattle.std.proofs.lemmas.Result.{on_ok_weaker}
use Rattle.vocabulary.specs.OptionSteps.{◌>>=◌, guard}
use Rattle.sqlite.specs.Effect.{Database}
use Rattle.sqlite.specs.Held.{Held, state}
use Rattle.sqlite.specs.State.{State, HasCleanDisk, IsUnchanged, KeepsCommit, Survives}
use Rattle.sqlite.specs.Tree.{Trees}
use Rattle.sqlite.proofs.StateLemmas.{survives_then}
use Rattle.sqlite_trees.specs.declared.store.Store as store
use Rattle.sql_model.specs.OfficeRecords.{are_left_empty, has_no_row}
use Rattle.sql_schema.specs.Contents.{demands_before_sessions, polls_before_sessions, presences_before_sessions}
use Rattle.sql_schema.specs.Statements.{ChangesNothing, HasTables, IsDesk, IsRead, IsRising, layout_two}
use Rattle.sql_rows.proofs.RowMeaningLemmas.{bound}
use Rattle.sql_load.specs.declared.fault.LoadError.{LoadError}
use Rattle.sql_load.specs.declared.fault.LoadError.TheVariants.{NoOffice, Store, Memory}
use Rattle.sql_load.specs.WholeReading.{IsReading}
use Rattle.sql_load.specs.LoadResults.{ReadErrAgrees, ReadAgrees, any_at_all}

pub desk_same : (old new : State) → IsUnchanged old new → IsDesk old → IsDesk new
desk_same old new h desk =
    let same = h.0.now_is in
    record {
      schema = subst (λ (d : Database). HasTables layout_two d.schema) (sym same) desk.schema;
      rising = λ number is. subst (λ (d : Database). IsRising (d.trees number)) (sym same) (desk.rising number is);
    }

pub unchanged_then : (a b c : State) → IsUnchanged a b → IsUnchanged b c → IsUnchanged a c
unchanged_then a b c p q = (
  record {
    was_open = p.0.was_open;
    is_open = q.0.is_open;
    now_is = q.0.now_is ∙ p.0.now_is;
    committed_is = q.0.committed_is ∙ p.0.committed_is;
    mode = q.0.mode ∙ p.0.mode;
  },
  record { changes = q.1.changes ∙ p.1.changes; last_rowid = q.1.last_rowid ∙ p.1.last_rowid },
  q.2 ∙ p.2,
)

pub keeps_then : (a b c : State) → KeepsCommit a b → KeepsCommit b c → KeepsCommit a c
keeps_then a b c p q = record { was_open = λ o. p.was_open (q.was_open o); committed = λ o. q.committed o ∙ p.committed (q.was_open o) }

module _ {S : Type 0} (g : store.Ghosts S) where
  -- a reading before another was of the same tables
  pub read_first : (a b c : Held S) → Survives (state g b) (state g c) (λ _. ⊥) → IsRead g a c → IsRead g a b
  read_first a b c later read =
      let clean : HasCleanDisk (state g c) = read.0 in
      (omega (arith, later.clean, clean), read.1)

  pub read_second : (a b c : Held S) → IsUnchanged (state g a) (state g b) → IsRead g a c → IsRead g b c
  read_second a b c same read = (read.0, desk_same (state g a) (state g b) same read.1)

  pub changes_then : (a b c : Held S) → (IsRead g a b → IsUnchanged (state g a) (state g b)) → ChangesNothing g a b → ChangesNothing g b c → ChangesNothing g a c
  changes_then a b c same one two = record {
    preserved = λ read.
        let first = read_first a b c two.crash read in
        keeps_then (state g a) (state g b) (state g c) (one.preserved first) (two.preserved (read_second a b c (same first) read));
    was_open = λ clean is_open. one.was_open (omega (arith, two.crash.clean, clean)) (two.was_open clean is_open);
    crash = survives_then (state g a) (state g b) (state g c) (λ _. ⊥) (λ _. ⊥) (λ _. ⊥) (λ _ _ none. none) (λ _ _ none. none) one.crash two.crash;
  }

  module _ {X Y : Type 0} (a b c : Held S) (right : Y → Bool) (x : X) (r : Result Y LoadError) (said : Trees → Option X) (next : X → Trees → Option Y) where
    -- what is said next is read next
    pub then : IsReading g a b any_at_all (Ok x) said → IsReading g b c right r (next x) → IsReading g a c right r (λ trees. said trees >>= λ y. next y trees)
    then one two = record {
      holds = λ read.
          let first = read_first a b c two.changes.crash read in
          let same = one.same first in
          let here = (state g a).now.trees in
          let it : ReadAgrees right r (next x here) = subst (λ (d : Database). ReadAgrees right r (next x d.trees)) same.0.now_is (two.holds (read_second a b c same read)) in
          subst (λ (o : Option X). ReadAgrees right r (o >>= λ y. next y here)) (sym (one.holds first)) it;
      same = λ read.
          let first = read_first a b c two.changes.crash read in
          let same = one.same first in
          on_ok_weaker r (unchanged_then (state g a) (state g b) (state g c) same) (two.same (read_second a b c same read));
      changes = changes_then a b c one.same one.changes two.changes;
    }

  module _ {X Y : Type 0} (a b : Held S) (right : Y → Bool) (said : Trees → Option X) (next : X → Trees → Option Y) where
    cause : (e : LoadError) → ReadErrAgrees any_at_all e (said (state g a).now.trees) → ReadErrAgrees right e (said (state g a).now.trees >>= λ y. next y (state g a).now.trees)
    cause NoOffice none = λ y h. let it = bound (said (state g a).now.trees) (λ z. next z (state g a).now.trees) y h in absurd (true≢false (none it.0 it.1))
    cause Store none = tt
    cause Memory none = tt

    -- where a reading fails, the whole does
    pub stop : (e : LoadError) (r : Result Y LoadError) → r ≡ Err e → IsReading g a b any_at_all (Err e) said → IsReading g a b right r (λ trees. said trees >>= λ y. next y trees)
    stop e r is one = subst (λ (q : Result Y LoadError). IsReading g a b right q (λ trees. said trees >>= λ y. next y trees)) (sym is) (record {
      holds = λ read. cause e (one.holds read);
      same = λ _. tt;
      changes = one.changes;
    })

  -- the last reading
  pub last : {X Y : Type 0} (a b : Held S) (right : Y → Bool) (x : X) (r : Result Y LoadError) (said : Trees → Option X) (next : X → Option Y) → IsReading g a b any_at_all (Ok x) said → ReadAgrees right r (next x)
      → IsReading g a b right r (λ trees. said trees >>= next)
  last a b right x r said next one it = record {
    holds = λ read. subst (λ o. ReadAgrees right r (o >>= next)) (sym (one.holds read)) it;
    same = λ read. always r (one.same read);
    changes = one.changes;
  }
    where
      always : {Z W : Type 0} (r : Result Z LoadError) → W → OnOk r W
      always (Ok z) w = w
      always (Err e) w = tt

-- ---- one table

-- ---- the tables that version 2 leaves empty

only_all : (a b c : Bool) → (guard a >>= λ _. guard b >>= λ _. guard c) ≡ guard (a && b && c)
only_all true true c = refl
only_all true false c = refl
only_all false b c = refl

-- one table after another has no row
pub left_is : ◌≡◌ {A = Trees → Option (Unit {0})} (λ trees. guard (has_no_row presences_before_sessions trees) >>= λ _. guard (has_no_row demands_before_sessions trees) >>= λ _. guard (has_no_row polls_before_sessions trees)) (λ trees. guard (are_left_empty trees))
left_is = λ i trees. only_all (has_no_row presences_before_sessions trees) (has_no_row demands_before_sessions trees) (has_no_row polls_before_sessions trees) i
