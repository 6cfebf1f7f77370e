-- What a file holds that was closed.
use Rattle.std.specs.Prelude.{ℕ, List}
use Rattle.sqlite.specs.Held.{Held}
use Rattle.sqlite.specs.Tree.{Trees}
use Rattle.sqlite_trees.specs.View.{IsClean, IsQuiet}
use Rattle.sqlite_trees.specs.declared.store.Store as store

-- its disk returned what was written, and it holds what a crash may leave of its store
pub record HoldsWhatIsLeft {S : Type 0} (g : store.Ghosts S) (it : S) (MayHold : Trees → Type 0)
    : Type 0 where
  pub clean : IsClean (g.view it)
  pub left : (db : Trees) → MayHold db → g.recovers it db

-- a connection to the file of that name was let go, so that a crash leaves nothing that it did not
-- leave before, and this was done with its store
abbrev pub LetsGo : {F S : Type 0} → (F → List ℕ → S → F → Type 0) → store.Ghosts S
    → F → List ℕ → Held S → F → Type 0
LetsGo {S = S} Does g before name conn after =
    (store : S) × IsQuiet g.view g.faults g.recovers g.is_shielded conn.store store
    × Does before name store after
