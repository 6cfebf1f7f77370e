-- A call that is decided, and written.
use Rattle.std.proofs.Common.{◌≡◌, true, Option, Some, None, Ok, Result, IsTrue, sym, ap, subst, ◌∙◌, arith}
use Rattle.sqlite.specs.Effect.{Database, IsDatabase}
use Rattle.sqlite.specs.Held.{Held, state}
use Rattle.sqlite.specs.State.{HasCleanDisk, IsUnchanged, KeepsCommit}
use Rattle.sqlite_trees.specs.declared.store.Store as store
use Rattle.desk_words.specs.Office.{is_office}
use Rattle.desk_words.specs.declared.answer.Answer.{Answer}
use Rattle.desk_words.specs.declared.change.Change.{Change}
use Rattle.desk_words.specs.declared.office.OfficeLists.{OfficeLists}
use Rattle.desk_words.specs.declared.request.Call.{Call}
use Rattle.sql_load.proofs.ReadingLemmas.{keeps_then}
use Rattle.desk_words.specs.Changes.{applied_if_any}
use Rattle.meeting_core.specs.Decisions.{DecidedChangesCanBeMade}
use Rattle.meeting_core.specs.Step.{decided, stepped}
use Rattle.sql_write.specs.Writes.{StandsIn}
use Rattle.sql_schema.specs.Statements.{DeclaresNothing, WasOpen}
use Rattle.desk_deciding.specs.Deciding.{IsDecided, HoldsOfTables}
use Rattle.desk_store.specs.TableReads.{WritesIfAny, can_make_if_any}
use Rattle.sql_model.specs.Standing.{Stands}
use Rattle.desk_deciding.proofs.KeepingLemmas.{stands_same}

-- what is decided can be made
decided_makes : DecidedChangesCanBeMade → (office : OfficeLists) (call : Call) (change : Option Change) → (decided office call).change ≡ change → is_office office ≡ true → is_office (applied_if_any office change) ≡ true → can_make_if_any office change ≡ true
decided_makes law office call None is before later = before
decided_makes law office call (Some change) is before later = law office call change is before later

module _ {S : Type 0} (g : store.Ghosts S) (a b c : Held S) (call : Call) (answer : Answer Change) (returned : HoldsOfTables g a b (Ok answer) (IsDecided call)) where
  -- while a call is decided, the tables stay the office that they are
  holds : HasCleanDisk (state g b) → IsTrue (state g a).in_transaction → IsDatabase (state g a).now → (office : OfficeLists) → Stands (state g a) office → StandsIn office (state g b)
  holds clean inside sound office stands =
      let same = returned.same (clean, stands.desk) in
      let there = stands_same (state g a) (state g b) office same.0.now_is stands in
      record { desk = there.desk; version = there.version; inside = same.0.mode ∙ inside; sound = subst IsDatabase (sym same.0.now_is) sound; means = there.holds }

  module _ {T E : Type 0} (r : Result T E) (writes : WritesIfAny g b c r answer.change) where
    early : HasCleanDisk (state g c) → HasCleanDisk (state g b)
    early clean = omega (arith, writes.crash.clean, clean)

    -- whatever comes of it, nothing is committed
    pub step_keeps : HasCleanDisk (state g c) → (office : OfficeLists) → Stands (state g a) office → KeepsCommit (state g a) (state g c)
    step_keeps clean office stands =
        let before = early clean in
        keeps_then (state g a) (state g b) (state g c) (returned.changes.preserved (before, stands.desk)) (writes.preserved clean)

    -- what was decided is what is decided of the call
    pub decided_as : HasCleanDisk (state g c) → (office : OfficeLists) → Stands (state g a) office → answer ≡ decided office call
    decided_as clean office stands = (returned.holds (early clean) office stands).is

    -- and no store is opened
    pub step_opened : WasOpen (state g a) (state g c)
    step_opened clean is_open = returned.changes.was_open (early clean) ((writes.preserved clean).was_open is_open)

    -- where nothing is decided to change, nothing is changed
    pub step_still : HasCleanDisk (state g c) → (office : OfficeLists) → Stands (state g a) office → (decided office call).change ≡ None → IsUnchanged (state g a) (state g c)
    step_still clean office stands none =
        let before = early clean in
        let is = returned.holds before office stands in
        let same = writes.still (ap (λ (it : Answer Change). it.change) is.is ∙ none) in
        subst (λ (h : Held S). IsUnchanged (state g a) (state g h)) (sym same) (returned.same (before, stands.desk))

  -- where it is written, the tables are the office after the step
  pub step_holds : {T E : Type 0} (x : T) → DecidedChangesCanBeMade → WritesIfAny {T = T} {E = E} g b c (Ok x) answer.change → HasCleanDisk (state g c) → IsTrue (state g a).in_transaction → IsDatabase (state g a).now → (office : OfficeLists) → Stands (state g a) office
      → (Stands (state g c) (stepped office call) × IsDatabase (state g c).now) × IsTrue (state g c).in_transaction × ((decided office call).reply ≡ answer.reply) × DeclaresNothing (state g a) (state g c)
  step_holds x law writes clean inside sound office stands =
      let before = early (Ok x) writes clean in
      let is = returned.holds before office stands in
      let change = ap (λ (it : Answer Change). it.change) is.is in
      let written = writes.written clean office (holds before inside sound office stands) (decided_makes law office call answer.change (sym change) stands.preserved is.preserved) in
      let there = written.0 in
      let same = returned.same (before, stands.desk) in
      let left = ap (applied_if_any office) change in (
        (
          record {
            desk = there.desk;
            version = there.version;
            holds = there.means ∙ ap (λ (o : OfficeLists). Some o) left;
            preserved = subst (λ (o : OfficeLists). IsTrue (is_office o)) left is.preserved;
          },
          there.sound,
        ),
        there.inside,
        sym (ap (λ (it : Answer Change). it.reply) is.is),
        written.1 ∙ ap (λ (d : Database). d.schema) same.0.now_is,
      )
