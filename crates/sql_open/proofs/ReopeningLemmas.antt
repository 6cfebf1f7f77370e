-- Why a store is not opened once more.
use Rattle.std.proofs.Common.{◌≡◌, ◌≤◌, ℕ, true, false, inl, inr, sym, subst, ◌∙◌, arith}
use Rattle.std.proofs.lemmas.Bool.{cases_Bool}
use Rattle.sqlite.specs.declared.error.Error.{Error}
use Rattle.sqlite.specs.Steps.{FailsToOpen}
use Rattle.sqlite.specs.Tree.{Trees}
use Rattle.sqlite_catalog.specs.Listing.{IsSound}
use Rattle.sqlite_disk.specs.Disk.{MoreFaults}
use Rattle.sqlite_rules.specs.Calls.{Excuses}
use Rattle.sqlite_trees.specs.View.{View, IsRolledBack}
use Rattle.sqlite_trees.specs.declared.error.StoreError.{StoreError}
use Rattle.sqlite_trees.specs.declared.error.StoreError.TheVariants.{OutOfMemory, Io, Corrupt, Full, Broken, Unstorable}

-- a store that is broken once it was rolled back is shut
pub shut_if_broken : (old new : View) → IsRolledBack old new → new.is_broken ≡ true → new.is_open ≡ false
shut_if_broken old new undone broken = elim (cases_Bool new.is_open) [
  | inl is_open ↦ absurd (let e : true ≡ false = sym broken ∙ (undone.undone is_open).1 in cc)
  | inr shut ↦ shut
]

excused : (a b : Type 0) → (a → b) → (cause : StoreError) → Excuses a ⊥ cause → Excuses b ⊥ cause
excused a b more OutOfMemory h = tt
excused a b more Io h = more h
excused a b more Corrupt h = more h
excused a b more Full h = more h
excused a b more Broken h = absurd h
excused a b more Unstorable h = absurd h

-- a failure to read tables is one of the same tables, where at least as many faults were met before
pub fails_before : (t u : Trees) (early mid late : ℕ) (e : Error) → t ≡ u → early ≤ mid → FailsToOpen t (MoreFaults mid late) e → FailsToOpen u (MoreFaults early late) e
fails_before t u early mid late e same before (inl (is, none)) = inl (is, λ schema. subst (λ (d : Trees). ¬ IsSound schema d) same (none schema))
fails_before t u early mid late e same before (inr (cause, is, why)) = inr (cause, is, excused (MoreFaults mid late) (MoreFaults early late) (λ more. omega (arith, before, more)) cause why)
