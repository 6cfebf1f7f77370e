-- The tables of a desk that holds nothing, made one after another.
use Rattle.std.proofs.Common.{◌≡◌, true, Ok, refl, subst, arith, ◌∙◌}
use Rattle.sqlite.specs.Held.{Held, state}
use Rattle.sqlite.specs.State.{State, HasCleanDisk, KeepsCommit, Survives}
use Rattle.sqlite.proofs.StateLemmas.{survives_then}
use Rattle.sqlite_trees.specs.declared.store.Store as store
use Rattle.sql_model.specs.Standing.{two}
use Rattle.sql_schema.specs.Contents as contents
use Rattle.sql_schema.specs.Statements.{AddsFirst, CommitsNothing, Does}
use Rattle.sql_schema.specs.Tables.{desk_schema, no_schema}
use Rattle.sql_lemmas.proofs.Frames.{empty_is_desk, twos_apart, twos_declared}
use Rattle.sql_lemmas.proofs.Making.{extends_empty}
use Rattle.sql_open.specs.NewTables.{IsMaking}
use Rattle.sql_open.specs.NewDesk.{AreMade, LeavesEmptyDesk}
use Rattle.sql_open.proofs.CrashLemmas.{nothing_then}
use Rattle.sql_open.proofs.EmptyLemmas.{noted}
use Rattle.sql_open.proofs.WholeLemmas.{new_desk}

keeps_then : (a b c : State) → KeepsCommit a b → KeepsCommit b c → KeepsCommit a c
keeps_then a b c p q = record { was_open = λ o. p.was_open (q.was_open o); committed = λ o. q.committed o ∙ p.committed (q.was_open o) }

-- the tables are made, and then their version is noted
pub made_and_noted : {S T U V : Type 0} (g : store.Ghosts S) (a b c : Held S) (t : T) (u : U) (v : V) → IsMaking g a b (Ok t) no_schema desk_schema
    → Does g b c (Ok u) (AddsFirst contents.desk two.version) → CommitsNothing g b c → LeavesEmptyDesk g a c (Ok v)
made_and_noted g a b c t u v one added commits = record {
  made = λ clean inside empty.
      let early : HasCleanDisk (state g b) = omega (arith, commits.crash.clean, clean) in
      let done = one.made early inside empty.0 in
      let are = extends_empty no_schema desk_schema refl (state g a) (state g b) done.0 empty in
      noted (state g b) (state g c) are (added clean done.1 (empty_is_desk (twos_apart desk_schema twos_declared) (state g b) are twos_declared));
  preserved = λ clean.
      let early : HasCleanDisk (state g b) = omega (arith, commits.crash.clean, clean) in
      keeps_then (state g a) (state g b) (state g c) (one.commits.preserved early) (commits.preserved clean);
  crash = nothing_then (state g a) (state g b) (state g c) one.commits.crash commits.crash;
}

-- a crash leaves no other tables than these, once they are committed
pub commits_made : {S T : Type 0} (g : store.Ghosts S) (conn begun mid : Held S) (t : T) → begun ≡ record conn { in_transaction = true } → LeavesEmptyDesk g begun mid (Ok t) → (end : State) → Survives (state g mid) end (λ db. db ≡ (state g mid).now.trees)
    → Survives (state g conn) end (AreMade (state g conn))
commits_made g conn begun mid t is leaves end commits =
    let there = subst (λ (h : Held _). LeavesEmptyDesk g h mid (Ok t)) is leaves in
    let s = there.crash in
    survives_then (state g conn) (state g mid) end (λ _. ⊥) (λ db. db ≡ (state g mid).now.trees) (AreMade (state g conn)) (λ _ _ none. absurd none)
    (λ clean db same none.
    let early : HasCleanDisk (state g mid) = omega (arith, commits.clean, clean) in
    let made = there.made early refl (none, tt) in
    new_desk (state g mid) db made.0 made.1 made.2 same)
    (record { clean = s.clean; shield = s.shield; counts = s.counts; limit = s.limit; closes = s.closes; crash = s.crash }) commits
