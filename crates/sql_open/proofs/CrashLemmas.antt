-- What a crash leaves of what was done in a transaction, and of a store that is open.
use Rattle.std.proofs.Common.{◌≡◌, IsTrue, sym, ap, subst, ◌∙◌, inl, inr}
use Rattle.sqlite.specs.Effect.{Database}
use Rattle.sqlite.specs.Held.{Held, state}
use Rattle.sqlite.specs.State.{State, Survives}
use Rattle.sqlite.specs.Tree.{Trees}
use Rattle.sqlite.proofs.StateLemmas.{survives_then}
use Rattle.sqlite_trees.specs.declared.store.Store as store
use Rattle.sql_open.specs.Crashes.{LeavesItself, OpensMoved}
use Rattle.sql_open.specs.WholeDesk.{IsWhole, OpensAgain}
use Rattle.sql_open.specs.declared.version.KnownVersion.TheVariants.{Two}
use Rattle.sql_open.proofs.OpeningLemmas.{some_is}

-- where neither of two calls commits, a crash leaves what it left before both
pub nothing_then : (a b c : State) → Survives a b (λ _. ⊥) → Survives b c (λ _. ⊥) → Survives a c (λ _. ⊥)
nothing_then a b c one two = survives_then a b c (λ _. ⊥) (λ _. ⊥) (λ _. ⊥) (λ _ _ none. none) (λ _ _ none. none) one two

-- while the store is open, and nothing waits for a commit, a crash leaves the tables that are read
pub leaves_itself : {S : Type 0} (g : store.Ghosts S) (h : Held S) → ((s : S) (db : Trees) → IsTrue (g.view s).is_open → g.recovers s db → db ≡ (g.view s).committed) → ((s : S) → IsTrue (g.view s).is_open → g.recovers s (g.view s).committed)
    → IsTrue (state g h).is_open → (state g h).now ≡ (state g h).committed → LeavesItself (state g h)
leaves_itself g h settled stays is_open rests = λ db.
    let same = ap (λ (d : Database). d.trees) rests in
    (λ may. settled h.store db is_open may ∙ sym same, λ is. subst (g.recovers h.store) (sym (is ∙ same)) (stays h.store is_open))

-- what a crash leaves whole is opened
pub whole_again : {S : Type 0} (g : store.Ghosts S) → OpensAgain g
whole_again g desk conn opened office leaves may opens clean = (opens clean office (Two, leaves (state g conn).now.trees may)).0

-- what a crash leaves of tables of version 1, or of them while they are moved, is whole
pub moved_again : {S : Type 0} (g : store.Ghosts S) → OpensMoved g
moved_again g desk conn opened office whole leaves may opens clean = (opens clean office (elim may [ inl was ↦ leaves (state g conn).now.trees was | inr moved ↦ (Two, subst (IsWhole (state g conn).now.trees) (some_is (sym moved.was ∙ whole.holds)) moved.whole) ])).0
