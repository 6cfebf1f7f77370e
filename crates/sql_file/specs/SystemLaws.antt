-- What is known of a file of the system once it was opened, refused, given up or closed.
use Rattle.std.proofs.Common.{◌≡◌, inl, inr, ◌++◌, List, [], ◌∷◌, ◌≤◌, sym, subst, ap}
use Rattle.std.proofs.Math.Arith.{le-zero}
use Rattle.sqlite.specs.Effect.{Database}
use Rattle.sqlite.specs.Files.{AreFoundIn}
use Rattle.sqlite.specs.Held.{Held, state}
use Rattle.sqlite.specs.State.{HasCleanDisk}
use Rattle.sqlite.specs.Tree.{Trees}
use Rattle.sqlite_trees.specs.View.{IsClean, doubt}
use Rattle.sqlite_trees.specs.declared.store.Store as store
use Rattle.sqlite_wal.specs.Recovery.{Image}
use Rattle.sql_file.specs.ClosedFiles.{HoldsWhatIsLeft}
use Rattle.sql_file.specs.SystemHeld.{ClosesIt, FindsFirst, IsLetGoClean, IsReliable, IsReliableBy}
use Rattle.sql_file.specs.SystemHeld.{IsUsedUp, LeftBy, MayHold, MayHoldBy, RefusesIt}
use Rattle.sql_file.specs.declared.files.SystemFiles.{SystemFiles}

module _ {S : Type 0} (g : store.Ghosts S) where
  -- where one store was let go, it is the last that was
  only_left : (earlier gone : List (S × Unit {0})) (last : S) → gone ≡ earlier ++ (last, tt) ∷ []
      → IsLetGoClean g gone
      → IsClean (g.view last) × ((db : Trees) → LeftBy g gone db → g.recovers last db)
  only_left [] gone last is clean = (
    subst (IsLetGoClean g) is clean,
    λ db left. subst (λ (it : List (S × Unit {0})). LeftBy g it db) is left,
  )
  only_left (one ∷ []) gone last is clean = absurd (subst (IsLetGoClean g) is clean)
  only_left (one ∷ next ∷ more) gone last is clean = absurd (subst (IsLetGoClean g) is clean)

  -- of files that are used up nothing says that they are reliable
  used_up : (new : SystemFiles S) → IsUsedUp g new → IsReliable g new → ⊥
  used_up new it reliable =
      subst (λ (gone : List (S × Unit {0})). IsLetGoClean g gone) it.none
      (subst (λ used. IsReliableBy g used new.let_go.items) it.used reliable)

  module _ (image : Image) where
    pub finds_held : (old : SystemFiles S) (conn : Held S) (new : SystemFiles S)
        → FindsFirst g image old conn new → HasCleanDisk (state g conn)
        → MayHold g image old (state g conn).now.trees
    finds_held old conn new finds clean =
        let same : (state g conn).now.trees ≡ (state g conn).committed.trees =
        ap (λ (d : Database). d.trees) (finds.same clean) in
        subst (λ used. MayHoldBy g image used old.let_go.items (state g conn).now.trees)
        (sym finds.unused) (subst (AreFoundIn image) (sym same) (finds.found clean).reads)

    pub refuses_held : (old new : SystemFiles S) → RefusesIt g old new → IsReliable g new
        → (db : Trees) → MayHold g image new db → MayHold g image old db
    refuses_held old new (inl same) reliable db may =
        subst (λ (files : SystemFiles S). MayHold g image files db) same may
    refuses_held old new (inr used) reliable db may = absurd (used_up new used reliable)

    pub gives_up_held : (old between new : SystemFiles S) (conn : Held S)
        → FindsFirst g image old conn between → new ≡ between → IsReliable g new → ⊥
    gives_up_held old between new conn finds same reliable =
        used_up between finds.used_up (subst (IsReliable g) same reliable)

    pub closes_held : (old new : SystemFiles S) (it : S) → ClosesIt g old it new
        → IsReliable g new → HoldsWhatIsLeft g it (MayHold g image new)
    closes_held old new it closes reliable =
        let clean = subst (λ used. IsReliableBy g used new.let_go.items) closes.used reliable in
        let left =
        only_left old.let_go.items new.let_go.items closes.last closes.let_go clean in
        record {
          clean =
              le-zero (subst (λ n. doubt (g.view it).is_clean ≤ n) left.0 closes.quiet.clean);
          left = λ db may. closes.quiet.outcomes db (left.1 db
              (subst (λ used. MayHoldBy g image used new.let_go.items db) closes.used may));
        }
