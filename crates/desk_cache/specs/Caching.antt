-- What a desk that serves answers, and what is left of it.
use Rattle.std.specs.Prelude.{◌≡◌, false, None, Result, IfOk, OnOk, IsTrue}
use Rattle.sqlite.specs.Held.{Held, state}
use Rattle.sqlite.specs.State.{HasCleanDisk, Survives}
use Rattle.sqlite.specs.Tree.{Trees}
use Rattle.sqlite_trees.specs.declared.store.Store as store
use Rattle.any_office.specs.StoredOffice.{LeavesAtMost, made_by}
use Rattle.desk_words.specs.declared.answer.Answer.{Answer}
use Rattle.desk_words.specs.declared.change.Change.{Change}
use Rattle.desk_words.specs.declared.office.OfficeLists.{OfficeLists}
use Rattle.desk_words.specs.declared.reply.Failure.{Failure}
use Rattle.desk_words.specs.declared.reply.Reply.{Reply}
use Rattle.desk_words.specs.declared.request.Call.{Call}
use Rattle.meeting_core.specs.Step.{decided, stepped}
use Rattle.sql_open.specs.Crashes.{LeavesItself}
use Rattle.sql_open.specs.Opened.{OnDone}
use Rattle.sql_open.specs.WholeDesk.{LeavesWhole}
use Rattle.sql_schema.specs.Statements.{DeclaresNothing}
use Rattle.desk_store.specs.Joins.{AreAfter, IsAsItWas, IsDeskIfOpen, LeavesDesk}
use Rattle.desk_store.specs.TableReads.{HoldsOfDesk}

-- where the disk returned what was written, a crash leaves what it left before, or this holds of it
abbrev pub LeavesNext : {S : Type 0} → store.Ghosts S → Held S → Held S → (Trees → Type 0) → Type 0
LeavesNext g old new IsNext =
    HasCleanDisk (state g new)
    → LeavesAtMost (λ desk db. (state g desk).may_leave db) old new IsNext

-- what is found is so of the office for which the tables stood; no transaction stays open, the
-- tables are left as they were, and after an answer a crash leaves that office, whole, and nothing
-- else
pub record Finds {S X : Type 0} (g : store.Ghosts S) (old new : Held S) (result : Result X Failure)
    (IsSo : OfficeLists → X → Type 0) : Type 0 where
  pub found : HoldsOfDesk g old new (λ office. IfOk result (IsSo office))
  pub leaves : LeavesDesk g None old new
  pub ended : new.in_transaction ≡ false
  pub stays_open : OnDone g new result (IsTrue (state g new).is_open)
  pub settled : OnDone g new result (LeavesItself (state g new))
  pub whole : HoldsOfDesk g old new (λ office. OnOk result (LeavesWhole (state g new) office))
  pub still : HoldsOfDesk g old new
      (λ _. OnOk result (IsAsItWas (state g old) (state g new)))
  pub crash : IsDeskIfOpen (state g old) → Survives (state g old) (state g new) (λ _. ⊥)

-- a call is made: what is shown is so of its reply, and the tables stand for the office after its
-- step, which a crash leaves whole after an answer, and at most besides after a failure; nothing is
-- declared, no transaction stays open, and a call that changes nothing leaves all as it was
pub record Performs {S T : Type 0} (g : store.Ghosts S) (old new : Held S) (call : Call)
    (result : Result T Failure) (IsShown : Reply → T → Type 0) : Type 0 where
  pub done : HoldsOfDesk g old new (λ office. IfOk result (IsShown (decided office call).reply))
  pub declares : HoldsOfDesk g old new
      (λ _. OnOk result (DeclaresNothing (state g old) (state g new)))
  pub leaves : LeavesDesk g (made_by result call) old new
  pub ended : new.in_transaction ≡ false
  pub stays_open : OnDone g new result (IsTrue (state g new).is_open)
  pub settled : OnDone g new result (LeavesItself (state g new))
  pub whole : HoldsOfDesk g old new
      (λ office. OnOk result (LeavesWhole (state g new) (stepped office call)))
  pub still : HoldsOfDesk g old new (λ office. (decided office call).change ≡ None
      → OnOk result (IsAsItWas (state g old) (state g new)))
  pub crash : LeavesNext g old new (AreAfter (state g old) call)

-- an answer with this reply, which changes nothing
abbrev pub only_reply : Reply → Answer Change
only_reply reply = record { reply = reply; change = None }
