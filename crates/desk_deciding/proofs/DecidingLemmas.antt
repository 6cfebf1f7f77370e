-- What is decided of what was read of the office.
use Rattle.std.proofs.Common.{◌≡◌, Option, Some, None, Ok, Result, IfOk, IsTrue, refl, subst, sym, ◌∙◌, arith}
use Rattle.std.specs.Prelude.{option_map}
use Rattle.sqlite.specs.Held.{Held, state}
use Rattle.sqlite.specs.State.{HasCleanDisk}
use Rattle.sqlite_trees.specs.declared.store.Store as store
use Rattle.desk_words.specs.Changes.{applied_if_any}
use Rattle.desk_words.specs.Office.{is_office}
use Rattle.desk_words.specs.Rulings.{refused}
use Rattle.desk_words.specs.declared.answer.Answer.{Answer}
use Rattle.desk_words.specs.declared.change.Change.{Change}
use Rattle.desk_words.specs.declared.office.MeetingLists.{MeetingLists}
use Rattle.desk_words.specs.declared.office.OfficeLists.{OfficeLists}
use Rattle.desk_words.specs.declared.request.Call.{Call}
use Rattle.vocabulary.specs.declared.refusal.Refusal.{Refusal}
use Rattle.desk_words.specs.ViewTypes.{Party}
use Rattle.desk_words.specs.declared.request.PartyRequest.TheVariants.{Notice}
use Rattle.party_views.specs.PartyRows.{no_own_rows, own_rows_in}
use Rattle.party_views.specs.RowsRead.{own_rows_read}
use Rattle.desk_words.specs.declared.request.OfficeRequest.{OfficeRequest}
use Rattle.office_decisions.specs.ListsRead.{first_read}
use Rattle.meeting_core.specs.Step.{decided}
use Rattle.sql_model.specs.Standing.{Stands}
use Rattle.sql_load.specs.declared.fault.LoadError.{LoadError}
use Rattle.sql_load.specs.TableLookUps.{HoldsOfStoredOffice}
use Rattle.desk_deciding.specs.Deciding.{IsDecided, HoldsOfTables}
use Rattle.std.proofs.lemmas.Result.{on_ok_weaker}
use Rattle.sql_load.proofs.ReadingLemmas.{changes_then, read_first, read_second, unchanged_then}
use Rattle.desk_deciding.proofs.ReturnedLemmas.{always, ok_weaker}
use Rattle.desk_deciding.proofs.KeepingLemmas.{stands_same}

module _ {S : Type 0} (g : store.Ghosts S) (a b : Held S) where
  -- what is made of what was read
  pub returned_made : {X Y : Type 0} (x : X) (r : Result Y LoadError) (P : OfficeLists → X → Type 0) (Q : OfficeLists → Y → Type 0) → HoldsOfStoredOffice g a b (Ok x) P
      → ((office : OfficeLists) → IsTrue (is_office office) → P office x → IfOk r (Q office)) → HoldsOfTables g a b r Q
  returned_made x r P Q returned next = record {
    holds = λ clean office stands. next office stands.preserved (returned.holds (clean, stands.desk) office stands.holds stands.preserved);
    same = λ read. always r (returned.same read);
    changes = returned.changes;
  }

  -- what is read holds in another form too
  pub returned_also : {X : Type 0} (r : Result X LoadError) (P Q : OfficeLists → X → Type 0) → HoldsOfTables g a b r P
      → ((office : OfficeLists) → IsTrue (is_office office) → (x : X) → P office x → Q office x) → HoldsOfTables g a b r Q
  returned_also r P Q returned next = record {
    holds = λ clean office stands. ok_weaker (P office) (Q office) r (next office stands.preserved) (returned.holds clean office stands);
    same = returned.same;
    changes = returned.changes;
  }

  -- what holds where something is so, holds where it is so of the office for which the tables stand
  pub holds_where : {X : Type 0} (r : Result X LoadError) (IsSo : OfficeLists → Type 0) (P : OfficeLists → X → Type 0) → HoldsOfTables g a b r (λ office x. IsSo office → P office x)
      → (HasCleanDisk (state g a) → (office : OfficeLists) → Stands (state g a) office → IsSo office) → HoldsOfTables g a b r P
  holds_where r IsSo P returned so = record {
    holds = λ clean office stands.
        let early : HasCleanDisk (state g a) = omega (arith, returned.changes.crash.clean, clean) in
        ok_weaker (λ x. IsSo office → P office x) (P office) r (λ x next. next (so early office stands)) (returned.holds clean office stands);
    same = returned.same;
    changes = returned.changes;
  }

  -- what holds anyway holds where something is so, too
  pub holds_there : {X : Type 0} (r : Result X LoadError) (IsSo : OfficeLists → Type 0) (P : OfficeLists → X → Type 0) → HoldsOfTables g a b r P → HoldsOfTables g a b r (λ office x. IsSo office → P office x)
  holds_there r IsSo P returned = returned_also r P (λ office x. IsSo office → P office x) returned (λ office preserved x is _. is)

-- what holds of what was read before
pub holds_next : {S X Y : Type 0} (g : store.Ghosts S) (a b c : Held S) (x : X) (r : Result Y LoadError) (P : OfficeLists → X → Type 0) (Q : OfficeLists → Y → Type 0) → HoldsOfStoredOffice g a b (Ok x) P → HoldsOfTables g b c r (λ office y. P office x → Q office y)
    → HoldsOfTables g a c r Q
holds_next g a b c x r P Q one two = record {
  holds = λ clean office stands.
      let early : HasCleanDisk (state g b) = omega (arith, two.changes.crash.clean, clean) in
      let same = one.same (early, stands.desk) in
      ok_weaker (λ y. P office x → Q office y) (Q office) r (λ y next. next (one.holds (early, stands.desk) office stands.holds stands.preserved)) (two.holds clean office (stands_same (state g a) (state g b) office same.0.now_is stands));
  same = λ read.
      let same = one.same (read_first g a b c two.changes.crash read) in
      on_ok_weaker r (unchanged_then (state g a) (state g b) (state g c) same) (two.same (read_second g a b c same read));
  changes = changes_then g a b c one.same one.changes two.changes;
}

-- a call that every office refuses so
pub decided_so : (call : Call) (refusal : Refusal) → ((office : OfficeLists) → decided office call ≡ refused refusal) → (office : OfficeLists) → IsTrue (is_office office) → (answer : Answer Change) → answer ≡ refused refusal → IsDecided call office answer
decided_so call refusal so office preserved answer is = record {
  is = is ∙ sym (so office);
  preserved = subst (λ (a : Answer Change). IsTrue (is_office (applied_if_any office a.change))) (sym is) preserved;
}

-- the meeting of which was read first is found in the office
pub meeting_found : (what : OfficeRequest) (held found : Option MeetingLists) (lists : MeetingLists) → found ≡ Some lists → found ≡ option_map (first_read what) held → (m : MeetingLists) × (held ≡ Some m) × (lists ≡ first_read what m)
meeting_found what None found lists is read = absurd (cc)
meeting_found what (Some m) found lists is read =
    let same : ◌≡◌ {A = Option MeetingLists} (Some lists) (Some (first_read what m)) = sym is ∙ read in
    (m, refl, cc)

-- a notice reads none of a party's rows
pub notice_rows : (found : Option MeetingLists) (party : Party) → no_own_rows party ≡ own_rows_read Notice (own_rows_in found party)
notice_rows None party = refl
notice_rows (Some m) party = refl
