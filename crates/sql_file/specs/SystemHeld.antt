-- What a file of the system holds: what it held as it was opened, and then what its store left.
use Rattle.std.specs.Prelude.{◌≡◌, ◌⊎◌, ◌++◌, ⊤, Bool, true, false, List, [], ◌∷◌}
use Rattle.sqlite.specs.Files.{AreFoundIn}
use Rattle.sqlite.specs.Held.{Held, state}
use Rattle.sqlite.specs.Start.{FindsIn}
use Rattle.sqlite.specs.State.{HasCleanDisk}
use Rattle.sqlite.specs.Tree.{Trees}
use Rattle.sqlite_trees.specs.View.{IsClean, IsQuiet}
use Rattle.sqlite_trees.specs.declared.store.Store as store
use Rattle.sqlite_wal.specs.Recovery.{Image}
use Rattle.sql_file.specs.declared.files.SystemFiles.{SystemFiles}

module _ {S : Type 0} (g : store.Ghosts S) where
  -- what may be left of the one store that was let go; of a file that is open nothing is said
  abbrev pub LeftBy : List (S × Unit {0}) → Trees → Type 0
  LeftBy [] db = ⊤
  LeftBy (only ∷ []) db = g.recovers only.0 db
  LeftBy (first ∷ next ∷ more) db = ⊤

  -- one store was let go, and its disk returned what was written to it
  abbrev pub IsLetGoClean : List (S × Unit {0}) → Type 0
  IsLetGoClean [] = ⊥
  IsLetGoClean (only ∷ []) = IsClean (g.view only.0)
  IsLetGoClean (first ∷ next ∷ more) = ⊥

  abbrev pub MayHoldBy : Image → Bool → List (S × Unit {0}) → Trees → Type 0
  MayHoldBy image false let_go db = AreFoundIn image db
  MayHoldBy image true let_go db = LeftBy let_go db

  -- a file may hold these tables: before it is opened, those that are found in these two files, the
  -- database and its log; and once it was closed, those that its store may leave
  abbrev pub MayHold : Image → SystemFiles S → Trees → Type 0
  MayHold image files db = MayHoldBy image files.is_used files.let_go.items db

  abbrev pub IsReliableBy : Bool → List (S × Unit {0}) → Type 0
  IsReliableBy false let_go = ⊤
  IsReliableBy true let_go = IsLetGoClean let_go

  -- no file was opened so far, or one, and it was closed, and its disk returned what was written
  abbrev pub IsReliable : SystemFiles S → Type 0
  IsReliable files = IsReliableBy files.is_used files.let_go.items

  -- a file was opened, or removed, and none was closed
  pub record IsUsedUp (new : SystemFiles S) : Type 0 where
    pub used : new.is_used ≡ true
    pub none : new.let_go.items ≡ []

  -- no file was opened before, and what is found in this one is what the two files hold
  pub record FindsFirst (image : Image) (old : SystemFiles S) (conn : Held S) (new : SystemFiles S)
      : Type 0 where
    pub unused : old.is_used ≡ false
    pub used_up : IsUsedUp new
    pub found : HasCleanDisk (state g conn) → FindsIn image (state g conn)
    pub same : HasCleanDisk (state g conn) → (state g conn).now ≡ (state g conn).committed

  -- the files are as they were, or used up
  abbrev pub RefusesIt : SystemFiles S → SystemFiles S → Type 0
  RefusesIt old new = (new ≡ old) ⊎ IsUsedUp new

  -- a store was let go once what it left was copied, as far as its disk went
  pub record ClosesIt (old : SystemFiles S) (it : S) (new : SystemFiles S) : Type 0 where
    pub last : S
    pub quiet : IsQuiet g.view g.faults g.recovers g.is_shielded it last
    pub used : new.is_used ≡ true
    pub let_go : new.let_go.items ≡ old.let_go.items ++ (last, tt) ∷ []
