-- What is left of a desk where what was done in a transaction is committed, or its commit fails.
use Rattle.std.proofs.Common.{◌≡◌, inl, inr, List, [], Option, None, Ok, Err, Result, IsErr, true, false, IsTrue, sym, ap, subst, ◌∙◌, true≢false, arith}
use Rattle.sqlite.specs.Effect.{Database, IsDatabase}
use Rattle.sqlite.specs.Held.{Held, state}
use Rattle.sqlite.specs.State.{State, HasCleanDisk, IsRolledBack, IsUnchanged, KeepsCommit, KeepsCounts, Shows, Survives}
use Rattle.sqlite.specs.Steps.{FailsToCommit}
use Rattle.sqlite.specs.Tree.{Trees}
use Rattle.sqlite.specs.declared.error.Error.{Error}
use Rattle.sqlite.proofs.StateLemmas.{survives_then}
use Rattle.sqlite_trees.specs.declared.store.Store as store
use Rattle.desk_words.specs.declared.office.OfficeLists.{OfficeLists}
use Rattle.desk_words.specs.declared.reply.Failure.{Failure}
use Rattle.desk_words.specs.declared.request.Call.{Call}
use Rattle.sql_model.specs.Standing.{Stands}
use Rattle.sql_schema.specs.Statements.{IsDesk, WasOpen}
use Rattle.sql_open.specs.Crashes.{LeavesItself}
use Rattle.sql_open.specs.WholeDesk.{AsksOpen, IsWhole, LeavesWhole}
use Rattle.sql_open.proofs.CrashLemmas.{leaves_itself}
use Rattle.sql_open.proofs.WholeLemmas.{leaves_whole, whole_of}
use Rattle.sql_open.proofs.OpeningLemmas.{desk_same}
use Rattle.meeting_core.specs.Step.{stepped}
use Rattle.sql_load.specs.declared.fault.LoadError.{LoadError}
use Rattle.any_office.specs.StoredOffice.{office_after, made_by}
use Rattle.desk_store.specs.Joins.{AreAfter, IsAsItWas, IsDeskIfOpen, LeavesDesk}
use Rattle.desk_store.specs.Cached.{AreRecordsOf}
use Rattle.desk_deciding.specs.declared.cached.CachedRecord.{CachedRecord}
use Rattle.desk_deciding.specs.Deciding.{HoldsOfTables}
use Rattle.desk_deciding.proofs.KeepingLemmas.{stands_same}

-- what is done within a transaction commits nothing
pub record IsWithin (old new : State) : Type 0 where
  pub crash : Survives old new (λ _. ⊥)
  pub was_open : WasOpen old new
  pub preserved : HasCleanDisk new → (office : OfficeLists) → Stands old office → KeepsCommit old new

-- what is read in a transaction is read within it
pub holds_within : {S X : Type 0} (g : store.Ghosts S) (first b : Held S) (r : Result X LoadError) (IsSo : OfficeLists → X → Type 0) → HoldsOfTables g first b r IsSo → IsWithin (state g first) (state g b)
holds_within g first b r IsSo returned = record { crash = returned.changes.crash; was_open = returned.changes.was_open; preserved = λ clean office stands. returned.changes.preserved (clean, stands.desk) }

-- a transaction is committed
abbrev pub IsOver : State → State → Type 0
IsOver mid end = IsTrue mid.in_transaction × Shows mid end mid.now mid.now false × KeepsCounts mid end × (end.marks ≡ [])

-- behind it a crash leaves the tables that are read
pub itself_after : {S : Type 0} (g : store.Ghosts S) (mid end : Held S) → ((s : S) (db : Trees) → IsTrue (g.view s).is_open → g.recovers s db → db ≡ (g.view s).committed) → ((s : S) → IsTrue (g.view s).is_open → g.recovers s (g.view s).committed)
    → IsOver (state g mid) (state g end) → LeavesItself (state g end)
itself_after g mid end settled valid over = leaves_itself g end settled valid over.1.is_open (over.1.now_is ∙ sym over.1.committed_is)

-- a call that failed was not made
pub leaves_failed : {S T E : Type 0} (g : store.Ghosts S) (old new : Held S) (r : Result T E) (call : Call) → IsErr r → LeavesDesk g None old new → LeavesDesk g (made_by r call) old new
leaves_failed g old new (Ok x) call failed leaves = absurd cc
leaves_failed g old new (Err e) call failed leaves = leaves

-- a: the desk before; first: where the transaction is begun; b: where it is to be committed; new: behind it
module _ {S : Type 0} (g : store.Ghosts S) (a first b new : Held S) (begun : first ≡ record a { in_transaction = true }) (within : IsWithin (state g first) (state g b)) (ended : new.in_transaction ≡ false)
    (last : Survives (state g b) (state g new) (λ db. db ≡ (state g b).now.trees)) where
  mid_clean : HasCleanDisk (state g new) → HasCleanDisk (state g b)
  mid_clean clean = omega (arith, last.clean, clean)

  -- what survives the transaction survives from the desk before it
  from_desk : Survives (state g a) (state g b) (λ _. ⊥)
  from_desk =
      let h = subst (λ (it : Held S). Survives (state g it) (state g b) (λ _. ⊥)) begun within.crash in
      record { clean = h.clean; shield = h.shield; counts = h.counts; limit = h.limit; closes = h.closes; crash = h.crash }

  pub desk_clean : HasCleanDisk (state g new) → HasCleanDisk (state g a)
  desk_clean clean = omega (arith, from_desk.clean, last.clean, clean)

  desk_open : IsTrue (state g first).is_open → IsTrue (state g a).is_open
  desk_open is_open = sym (ap (λ (it : Held S). (state g it).is_open) begun) ∙ is_open

  stands_begun : (office : OfficeLists) → Stands (state g a) office → Stands (state g first) office
  stands_begun office stands = stands_same (state g a) (state g first) office (ap (λ (it : Held S). (state g it).now) begun) stands

  -- what survives the transaction and its commit
  over_all : Survives (state g a) (state g new) (λ db. db ≡ (state g b).now.trees)
  over_all = survives_then (state g a) (state g b) (state g new) (λ _. ⊥) (λ db. db ≡ (state g b).now.trees) (λ db. db ≡ (state g b).now.trees) (λ _ _ none. absurd none) (λ _ _ is. is) from_desk last

  pub committed : (made : Option Call) → (HasCleanDisk (state g new) → Shows (state g b) (state g new) (state g b).now (state g b).now false)
      → (HasCleanDisk (state g b) → (office : OfficeLists) → Stands (state g first) office → Stands (state g b) (office_after office made)) → LeavesDesk g made a new
  committed made shows there = record {
    was_reliable = desk_clean;
    was_open = λ clean is_open. desk_open (within.was_open (mid_clean clean) (shows clean).was_open);
    closes = over_all.closes;
    counts = over_all.counts;
    stands = λ clean is_open office stands. stands_same (state g b) (state g new) (office_after office made) (shows clean).now_is (there (mid_clean clean) office (stands_begun office stands));
  }

  -- the transaction is rolled back
  pub dropped : (HasCleanDisk (state g new) → IsRolledBack (state g b) (state g new)) → (IsTrue (state g a).is_open → (state g a).now ≡ (state g a).committed) → LeavesDesk g None a new
  dropped undone settled = record {
    was_reliable = desk_clean;
    was_open = λ clean is_open. desk_open (within.was_open (mid_clean clean) ((undone clean).was_open is_open));
    closes = over_all.closes;
    counts = over_all.counts;
    stands = λ clean is_open office stands.
        let mid_open = (undone clean).was_open is_open in
        let preserved = within.preserved (mid_clean clean) office (stands_begun office stands) in
        let committed_is = ap (λ (it : Held S). (state g it).committed) begun in
        stands_same (state g a) (state g new) office (((undone clean).undone is_open).0 ∙ preserved.committed mid_open ∙ committed_is ∙ sym (settled (desk_open (preserved.was_open mid_open)))) stands;
  }

  -- the commit fails, of a transaction that has not ended
  module _ (fails : HasCleanDisk (state g new) → (e : Error) × FailsToCommit (state g b) (state g new) e) (settled : IsTrue (state g a).is_open → (state g a).now ≡ (state g a).committed)
      (inside : HasCleanDisk (state g b) → (office : OfficeLists) → Stands (state g first) office → IsTrue (state g b).in_transaction) where
    opened : {e : Error} → FailsToCommit (state g b) (state g new) e → IsTrue (state g new).is_open → IsTrue (state g b).is_open
    opened (inl h) is_open = h.3.was_open is_open
    opened (inr h) is_open = h.2.0.was_open

    undone : HasCleanDisk (state g new) → IsTrue (state g new).is_open → (office : OfficeLists) → Stands (state g a) office → {e : Error} → FailsToCommit (state g b) (state g new) e → Stands (state g new) office
    undone clean is_open office stands (inl h) =
        let preserved = within.preserved (mid_clean clean) office (stands_begun office stands) in
        let mid_open = h.3.was_open is_open in
        let committed_is = ap (λ (it : Held S). (state g it).committed) begun in
        stands_same (state g a) (state g new) office ((h.3.undone is_open).0 ∙ preserved.committed mid_open ∙ committed_is ∙ sym (settled (desk_open (preserved.was_open mid_open)))) stands
    undone clean is_open office stands (inr h) = absurd (true≢false (sym (inside (mid_clean clean) office (stands_begun office stands)) ∙ h.1))

    pub not_committed : LeavesDesk g None a new
    not_committed = record {
      was_reliable = desk_clean;
      was_open = λ clean is_open. desk_open (within.was_open (mid_clean clean) (opened (fails clean).1 is_open));
      closes = over_all.closes;
      counts = over_all.counts;
      stands = λ clean is_open office stands. undone clean is_open office stands (fails clean).1;
    }

  -- where nothing was changed in the transaction, its commit leaves all as it was
  pub as_it_was : (IsTrue (state g a).is_open → (state g a).now ≡ (state g a).committed) → IsUnchanged (state g first) (state g b) → Shows (state g b) (state g new) (state g b).now (state g b).now false → KeepsCounts (state g b) (state g new)
      → IsAsItWas (state g a) (state g new)
  as_it_was settled same shows counts =
      let now_is = shows.now_is ∙ same.0.now_is ∙ ap (λ (it : Held S). (state g it).now) begun in
      let was_open = desk_open same.0.was_open in (
        record { was_open = was_open; is_open = shows.is_open; now_is = now_is; committed_is = shows.committed_is ∙ same.0.now_is ∙ ap (λ (it : Held S). (state g it).now) begun ∙ settled was_open; mode = shows.mode },
        record {
          changes = counts.changes ∙ same.1.changes ∙ ap (λ (it : Held S). (state g it).changes) begun;
          last_rowid = counts.last_rowid ∙ same.1.last_rowid ∙ ap (λ (it : Held S). (state g it).last_rowid) begun;
        },
      )

  -- a crash leaves what it left before, or what is committed: whole the office after the step
  pub survives_call : (call : Call) → (HasCleanDisk (state g a) → IsTrue (state g a).is_open)
      → (HasCleanDisk (state g b) → (office : OfficeLists) → Stands (state g first) office → Stands (state g b) (stepped office call) × IsDatabase (state g b).now) → Survives (state g a) (state g new) (AreAfter (state g a) call)
  survives_call call opened there =
      survives_then (state g a) (state g b) (state g new) (λ _. ⊥) (λ db. db ≡ (state g b).now.trees) (AreAfter (state g a) call) (λ _ db none. absurd none)
      (λ clean db is. (
        opened (desk_clean clean),
        λ office stands.
            let it = there (mid_clean clean) office (stands_begun office stands) in
            subst (λ (t : Trees). IsWhole t (stepped office call)) (sym is) (whole_of (state g b) (stepped office call) it.0 it.1),
      )) from_desk last

  -- what stands behind the commit is left whole
  pub whole_behind : (call : Call) (office : OfficeLists) → Stands (state g b) (stepped office call) → IsDatabase (state g b).now → Shows (state g b) (state g new) (state g b).now (state g b).now false → LeavesItself (state g new) → LeavesWhole (state g new) (stepped office call)
  whole_behind call office stands sound shows itself =
      leaves_whole (state g new) (stepped office call) (stands_same (state g b) (state g new) (stepped office call) shows.now_is stands) (subst IsDatabase (sym shows.now_is) sound) itself

  -- where nothing was changed in the transaction, a crash leaves what it left before
  pub survives_read : ((s : S) → IsTrue (g.view s).is_open → g.recovers s (g.view s).committed) → (IsTrue (state g a).is_open → (state g a).now ≡ (state g a).committed) → (IsDesk (state g first) → HasCleanDisk (state g b) → IsUnchanged (state g first) (state g b))
      → (HasCleanDisk (state g a) → IsDesk (state g a)) → Survives (state g a) (state g new) (λ _. ⊥)
  survives_read valid settled same desk =
      let begun_now = ap (λ (it : Held S). (state g it).now) begun in
      let whole = survives_then (state g a) (state g b) (state g new) (λ _. ⊥) (λ db. db ≡ (state g b).now.trees) (state g a).may_leave (λ _ _ none. absurd none)
      (λ clean db is.
      let it = (same (desk_same (state g a) (state g first) (sym begun_now) (desk (desk_clean clean))) (mid_clean clean)).0 in
      let was_open = desk_open it.was_open in
      let trees_are = ap (λ (d : Database). d.trees) (it.now_is ∙ begun_now ∙ settled was_open) in
      subst (state g a).may_leave (sym (is ∙ trees_are)) (valid a.store was_open)) from_desk last in
      record {
        clean = whole.clean;
        shield = whole.shield;
        counts = whole.counts;
        limit = whole.limit;
        closes = whole.closes;
        crash = λ clean db may. elim (whole.crash clean db may) [ inl was ↦ inl was | inr was ↦ inl was ];
      }

-- ---- whether the store is open is asked first

module _ {S : Type 0} (g : store.Ghosts S) (first a : Held S) where
  -- it is not known to be: no call is made
  pub asked_stop : {T : Type 0} {e : Failure} → AsksOpen {T = T} g first a (Err e) → LeavesDesk g None first a
  asked_stop asked = record {
    was_reliable = λ clean. omega (arith, asked.crash.clean, clean);
    was_open = λ clean is_open. (asked.same clean is_open).0;
    closes = asked.crash.closes;
    counts = asked.crash.counts;
    stands = λ clean is_open office stands. stands_same (state g first) (state g a) office (asked.same clean is_open).1 stands;
  }

  module _ {T : Type 0} {t : T} (asked : AsksOpen {T = T} {E = Failure} g first a (Ok t)) where
    -- it is open, and its tables are those that they were
    pub asked_open : HasCleanDisk (state g a) → IsTrue (state g a).is_open
    asked_open clean = (asked.still clean).0.0.is_open

    pub asked_stands : HasCleanDisk (state g a) → (office : OfficeLists) → Stands (state g first) office → Stands (state g a) office
    asked_stands clean office stands = stands_same (state g first) (state g a) office (asked.still clean).0.0.now_is stands

    pub desk_behind : IsDeskIfOpen (state g first) → HasCleanDisk (state g a) → IsDesk (state g a)
    desk_behind desk clean = let it = (asked.still clean).0.0 in desk_same (state g first) (state g a) (sym it.now_is) (desk it.was_open)

    pub leaves_behind : (made : Option Call) (new : Held S) → LeavesDesk g made a new → LeavesDesk g made first new
    leaves_behind made new h = record {
      was_reliable = λ clean. let early = h.was_reliable clean in omega (arith, asked.crash.clean, early);
      was_open = λ clean is_open. (asked.same (h.was_reliable clean) (h.was_open clean is_open)).0;
      closes = λ clean was_open. elim (h.closes clean (asked_open (h.was_reliable clean))) [ inl still ↦ inl still | inr more ↦ inr (omega (arith, asked.crash.counts, more)) ];
      counts = omega (arith, asked.crash.counts, h.counts);
      stands = λ clean is_open office stands. h.stands clean is_open office (asked_stands (h.was_reliable clean) office stands);
    }

    -- in a transaction that is begun behind it, the database lists its tables as they are declared
    pub begun_sound : (inner b : Held S) → inner ≡ record a { in_transaction = true } → IsWithin (state g inner) (state g b) → HasCleanDisk (state g b) → IsDatabase (state g inner).now
    begun_sound inner b begun within clean =
        let crash = subst (λ (it : Held S). Survives (state g it) (state g b) (λ _. ⊥)) begun within.crash in
        let early : HasCleanDisk (state g a) = omega (arith, crash.clean, clean) in
        subst (λ (it : Held S). IsDatabase (state g it).now) (sym begun) (asked.still early).1

    pub survives_behind : (call : Call) (new : State) → Survives (state g a) new (AreAfter (state g a) call) → Survives (state g first) new (AreAfter (state g first) call)
    survives_behind call new last =
        survives_then (state g first) (state g a) new (λ _. ⊥) (AreAfter (state g a) call) (AreAfter (state g first) call) (λ _ _ none. absurd none)
        (λ clean db after.
        let early : HasCleanDisk (state g a) = omega (arith, last.clean, clean) in
        ((asked.same early after.0).0, λ office stands. after.1 office (asked_stands early office stands))) asked.crash last

    -- where all was as it was behind the asking, it is as it was before
    pub same_behind : (new : State) → HasCleanDisk (state g a) → IsAsItWas (state g a) new → IsAsItWas (state g first) new
    same_behind new clean same =
        let it = asked.still clean in (
          record {
            was_open = it.0.0.was_open;
            is_open = same.0.is_open;
            now_is = same.0.now_is ∙ it.0.0.now_is;
            committed_is = same.0.committed_is ∙ it.0.0.committed_is;
            mode = same.0.mode;
          },
          record { changes = same.1.changes ∙ it.0.1.changes; last_rowid = same.1.last_rowid ∙ it.0.1.last_rowid },
        )

-- what was seen of a desk was seen of it in a transaction that is begun behind the asking
pub records_begun : {S T : Type 0} {t : T} (g : store.Ghosts S) (first a inner : Held S) (cached : List CachedRecord) → AsksOpen {T = T} {E = Failure} g first a (Ok t) → inner ≡ record a { in_transaction = true } → AreRecordsOf g first cached → AreRecordsOf g inner cached
records_begun g first a inner cached asked begun were clean office stands =
    let early : HasCleanDisk (state g a) = subst (λ (it : Held _). HasCleanDisk (state g it)) begun clean in
    let same = (asked.still early).0.0.now_is in
    let now_is = sym (ap (λ (it : Held _). (state g it).now) begun ∙ same) in
    were (omega (arith, asked.crash.clean, early)) office (stands_same (state g inner) (state g first) office now_is stands)

-- where nothing is committed, what is committed is no other office
pub survives_nothing : (old new : State) (P : Trees → Type 0) → Survives old new (λ _. ⊥) → Survives old new P
survives_nothing old new P h = record {
  clean = h.clean;
  shield = h.shield;
  counts = h.counts;
  limit = h.limit;
  closes = h.closes;
  crash = λ clean db may. elim (h.crash clean db may) [ inl was ↦ inl was | inr none ↦ absurd none ];
}
